-- The answer to a check: by the end of the canonical run on its problem, by a clause proof, or by a finite model (SMT-LIB 2.6, section
-- 4.2.6). A model may stand beside it, for `get-model` and `get-value`.
use Rattle.std.specs.Prelude.{◌≡◌, ◌⊎◌, ℕ, ℤ, Bool, true, false, cond, List, [], ◌∷◌, ◌++◌, codes, Option, Some, None}
use Rattle.std.specs.List.{list_any}
use Rattle.search.specs.declared.judge.Decided.{Decided}
use Rattle.search.specs.declared.judge.Decided.TheVariants.{Valid, Invalid, Saturated}
use Rattle.search.specs.declared.judge.Decided.TheVariants as decided
use Rattle.search.specs.Run as run
use Rattle.base_budget.specs.Ending.{Ending, ends_with, out_of_steps, overflows}
use Rattle.pri_typing.specs.declared.problem.Problem.{Problem}
use Rattle.base_answers.specs.Answer.{Answer, refused_answer}
use Rattle.pri_problem.specs.Encoded.{Fits, IsLarge, LeavesRange}
use Rattle.model_runs.specs.Ends.{run_end}
use Rattle.job_clauses.specs.Judged.{IsClauseFile}
use Rattle.job_parts.specs.Parts.{IsCutEarly}
use Rattle.model_refuting.specs.Refuting.{IsModelCounterexample}
use Rattle.model_table.specs.declared.model.Model.{Model}
use Rattle.smt_reader.specs.declared.replies.Reply.{Reply}
use Rattle.smt_reader.specs.declared.replies.Reply.TheVariants as reply
use Rattle.job_smt.specs.declared.checking.CheckAnswer.{CheckAnswer}
use Rattle.job_smt.specs.declared.checking.CheckAnswer.TheVariants.{Unsat, Sat, Unknown}
use Rattle.job_smt.specs.declared.checking.Cause.{Cause}
use Rattle.job_smt.specs.declared.checking.Cause.TheVariants.{Steps, Overflow, Branch}
use Rattle.proof_tree.specs.declared.run.Why.{Why}
use Rattle.proof_tree.specs.declared.run.Why.TheVariants as why
use Rattle.job_smt.specs.declared.models.Checked.{Checked}
use Rattle.job_smt.specs.declared.models.Shown.{Shown}
use Rattle.smt_models.specs.Models.{model_text}
use Rattle.smt_models.specs.Values.{symbol_values, values_text}

-- what the end of a run says of a check: its problem is the negation of what is asserted
abbrev pub told : Ending run.RunAnswer → CheckAnswer
told (ends_with (run.valid vs x) stands) = Unsat
told (ends_with (run.invalid log x) stands) = Sat
told (ends_with (run.saturated log x) stands) = Sat
told (ends_with run.too_long stands) = Unknown Branch
told (out_of_steps stands) = Unknown Steps
told (overflows numbers stands) = Unknown Overflow

-- The answer to the check with this problem, with this budget, where its encoding is not too large. It is the end of the canonical run;
-- or, where that is cut within the first part of the budget, Unsat, by a clause proof, or Sat, by a finite model.
pub data IsCheckAnswer (budget : ℕ) (p : Problem) (a : CheckAnswer) : Type 0 where
  leaves : LeavesRange p → a ≡ Unknown Overflow → IsCheckAnswer budget p a
  ends : Fits p → a ≡ told (run_end budget p) → IsCheckAnswer budget p a
  proved : Fits p → IsCutEarly budget p → (file : List ℕ) → IsClauseFile p file → a ≡ Unsat → IsCheckAnswer budget p a
  refuted : Fits p → IsCutEarly budget p → (m : Model) (us : List ℤ) → IsModelCounterexample p [] m us → a ≡ Sat → IsCheckAnswer budget p a

-- the answer by what the clause search found, where it found something
abbrev pub IsFoundAnswer : ℕ → Problem → Option CheckAnswer → Type 0
IsFoundAnswer budget p None = Unit {0}
IsFoundAnswer budget p (Some a) = IsCheckAnswer budget p a

-- what comes of a check: no answer where its encoding is too large
abbrev pub IsCheckOutcome : ℕ → Problem → Option CheckAnswer → Type 0
IsCheckOutcome budget p None = IsLarge p
IsCheckOutcome budget p (Some a) = IsCheckAnswer budget p a

-- what is shown, if anything is, is the text of a model that refutes the problem, and the values of symbols there
abbrev pub IsModelShown : Problem → Option Shown → Type 0
IsModelShown p None = Unit {0}
IsModelShown p (Some s) = (m : Model) × (us : List ℤ) × IsModelCounterexample p [] m us × (s.text ≡ model_text p m us) × (s.values ≡ symbol_values p m us)

-- the answer to the check with this problem, and a model of it
abbrev pub IsChecked : ℕ → Problem → Checked → Type 0
IsChecked budget p a = IsCheckAnswer budget p a.answer × IsModelShown p a.model

-- what comes of a check with its model
abbrev pub IsCheckedOutcome : ℕ → Problem → Option Checked → Type 0
IsCheckedOutcome budget p None = IsLarge p
IsCheckedOutcome budget p (Some a) = IsChecked budget p a

-- the answer says nothing
abbrev pub is_unknown : CheckAnswer → Bool
is_unknown Unsat = false
is_unknown Sat = false
is_unknown (Unknown cause) = true

-- two answers to a check do not contradict each other: they are the same, or one says nothing
abbrev pub AreAlike : CheckAnswer → CheckAnswer → Type 0
AreAlike a b = (a ≡ b) ⊎ ((is_unknown a ≡ true) ⊎ (is_unknown b ≡ true))

-- so it is with all; their models may differ
abbrev pub AllAlike : List Checked → List Checked → Type 0
AllAlike [] [] = Unit {0}
AllAlike [] (b ∷ ys) = ⊥
AllAlike (a ∷ xs) [] = ⊥
AllAlike (a ∷ xs) (b ∷ ys) = AreAlike a.answer b.answer × AllAlike xs ys

-- ---- the answer to all checks

-- the line of an answer
abbrev pub word : CheckAnswer → List ℕ
word Unsat = codes "unsat\n"
word Sat = codes "sat\n"
word (Unknown cause) = codes "unknown\n"

-- why the answer is unknown
abbrev pub reason : CheckAnswer → List ℕ
reason (Unknown Steps) = codes "(:reason-unknown steps)\n"
reason (Unknown Overflow) = codes "(:reason-unknown overflow)\n"
reason (Unknown Branch) = codes "(:reason-unknown branch)\n"
reason _ = codes "(error \"no answer is unknown\")\n"

-- a model, or that there is none
abbrev pub shown : Option Shown → List ℕ
shown None = codes "(error \"there is no model\")\n"
shown (Some s) = s.text

-- the values of these symbols in a model, or that there is none
abbrev pub values_shown : Option Shown → List (List ℕ) → List ℕ
values_shown None xs = codes "(error \"there is no model\")\n"
values_shown (Some s) xs = values_text s.values xs

-- the check has the answer `unknown`
abbrev pub is_open : Checked → Bool
is_open a = is_unknown a.answer

-- what `(get-info :reason-unknown)` is answered after this check: what cut the run
abbrev pub told_reason : Option Checked → List ℕ
told_reason None = codes "(error \"no answer is unknown\")\n"
told_reason (Some a) = reason a.answer

-- what `get-model` is answered after it: its model, or that there is none
abbrev pub told_model : Option Checked → List ℕ
told_model None = codes "(error \"there is no model\")\n"
told_model (Some a) = shown a.model

-- what `get-value` is answered after it for these symbols: their values in its model, or that there is none
abbrev pub told_values : Option Checked → List (List ℕ) → List ℕ
told_values None xs = codes "(error \"there is no model\")\n"
told_values (Some a) xs = values_shown a.model xs

-- What is told of these replies, where this is the last check: the answers to the checks in their order, models and values there, why an
-- answer is unknown, and what the other commands say; up to a check without an answer. Where the assertions or the symbols change, there
-- is no last check until the next one.
abbrev pub replied_from : Option Checked → List Reply → List Checked → List ℕ
replied_from l [] xs = []
replied_from l (reply.Says text ∷ told) xs = text ++ replied_from l told xs
replied_from l (reply.Reason ∷ told) xs = told_reason l ++ replied_from l told xs
replied_from l (reply.Model ∷ told) xs = told_model l ++ replied_from l told xs
replied_from l (reply.Values names ∷ told) xs = told_values l names ++ replied_from l told xs
replied_from l (reply.Change ∷ told) xs = replied_from None told xs
replied_from l (reply.Check ∷ told) [] = []
replied_from l (reply.Check ∷ told) (a ∷ xs) = word a.answer ++ replied_from (Some a) told xs

-- that of a whole script: before its first check there is no last one
abbrev pub replied : List Reply → List Checked → List ℕ
replied told xs = replied_from None told xs

-- that, with the status 2 where an answer is `unknown`, and else 0
abbrev pub lines_answer : List Reply → List Checked → Answer
lines_answer told xs = record { status = cond (list_any is_open xs) 2 0; text = replied told xs }

-- the line of a refusal after a text
abbrev pub refused_after : List ℕ → List ℕ → Answer
refused_after text name = record { status = 3; text = text ++ (refused_answer name).text }

-- an answer to each check, each with this budget
abbrev pub AreCheckAnswers : ℕ → List Problem → List Checked → Type 0
AreCheckAnswers budget [] [] = Unit {0}
AreCheckAnswers budget [] (a ∷ xs) = ⊥
AreCheckAnswers budget (p ∷ ps) [] = ⊥
AreCheckAnswers budget (p ∷ ps) (a ∷ xs) = IsChecked budget p a × AreCheckAnswers budget ps xs

-- an answer to each check up to one whose encoding is too large
abbrev pub AreFirstAnswers : ℕ → List Problem → List Checked → Type 0
AreFirstAnswers budget [] xs = ⊥
AreFirstAnswers budget (p ∷ ps) [] = IsLarge p
AreFirstAnswers budget (p ∷ ps) (a ∷ xs) = IsChecked budget p a × AreFirstAnswers budget ps xs

-- two answers to a script tell of the same replies, with answers to the checks that are alike, to all of them or
-- before the same refusal
pub data AreOneAnswer (a b : Answer) : Type 0 where
  whole : (told : List Reply) (xs ys : List Checked) → a ≡ lines_answer told xs → b ≡ lines_answer told ys → AllAlike xs ys → AreOneAnswer a b
  before : (name : List ℕ) (told : List Reply) (xs ys : List Checked) → a ≡ refused_after (replied told xs) name → b ≡ refused_after (replied told ys) name → AllAlike xs ys → AreOneAnswer a b

-- ---- as the code has it
abbrev pub cause_of : Why → Cause
cause_of why.Steps = Steps
cause_of (why.Overflow place) = Overflow
cause_of why.Branch = Branch

abbrev pub told_of : Decided → CheckAnswer
told_of (Valid d vs) = Unsat
told_of (Invalid d) = Sat
told_of (Saturated d) = Sat
told_of (decided.Unknown why r) = Unknown (cause_of why)
