-- Each line says what is so of its check.
use Rattle.std.proofs.Common.{◌≡◌, ◌⊎◌, inl, inr, Bool, true, false, cond, ℕ, suc, List, [], ◌∷◌, ◌++◌, take, drop, map, refl, sym, ap, subst, ◌∙◌, arith, codes, append_assoc, append-nil, length, Option, Some, None}
use Rattle.std.specs.List.{All, list_any}
use Rattle.std.proofs.lemmas.List.{take-append-drop}
use Rattle.std.proofs.lemmas.List.Elements.{All-cons}
use Rattle.smt_lists.specs.Cuts.{last_cut}
use Rattle.smt_reader.specs.Read.{read_as}
use Rattle.form_typed.specs.Truth.{Meaning}
use Rattle.pri_typing.specs.declared.problem.Problem.{Problem}
use Rattle.pri_typing.specs.WellFormed.{IsWellFormed}
use Rattle.base_answers.specs.Answer.{Answer, IsAnswerStatus, refused_answer}
use Rattle.smt_commands.specs.Least.{place_in}
use Rattle.model_table.specs.Models.{meaning_of}
use Rattle.smt_terms.specs.Scripts.{Command, State}
use Rattle.smt_reader.specs.Commands.{acts_of, questions, state_of}
use Rattle.smt_reader.specs.Formed.{IsFormedCheck}
use Rattle.smt_reader.specs.Posed.{IsCheckPosed}
use Rattle.smt_reader.specs.Poses.{ArePosed, IsScriptOf, checks_in}
use Rattle.smt_reader.proofs.Answers.{satisfiable, satisfied, unsatisfiable}
use Rattle.smt_reader.proofs.PosingChecks.{well_formed}
use Rattle.smt_reader.proofs.Texts.{text_checks}
use Rattle.job_smt.specs.declared.checking.CheckAnswer.{CheckAnswer}
use Rattle.job_smt.specs.declared.models.Checked.{Checked}
use Rattle.job_smt.specs.declared.models.Shown.{Shown}
use Rattle.job_smt.specs.declared.checking.CheckAnswer.TheVariants.{Unsat, Sat, Unknown}
use Rattle.job_smt.specs.Answers.{AreCheckAnswers, AreFirstAnswers, IsCheckAnswer, IsChecked, IsModelShown, is_open, refused_after, replied}
use Rattle.job_smt.proofs.Answered.{sat_refuted, unsat_holds}
use Rattle.job_smt.specs.Answered.{IsBegun, IsSmtAnswer, answered, large, refusal_name, refused, told_further, told_short, told_whole}
use Rattle.job_smt.specs.Meaning.{AllMean, FirstMean, Means, MeansAll, Scripted, ScriptedBefore, ShowsModels}

head : {A : Type 0} (P : A → Type 0) (x : A) (xs : List A) → All P (x ∷ xs) → P x
head P x xs h = h 0 x (omega arith)

tail : {A : Type 0} (P : A → Type 0) (x : A) (xs : List A) → All P (x ∷ xs) → All P xs
tail P x xs h i d k = h (suc i) d (omega (arith, k))

means : (w : Meaning) (budget : ℕ) (cs : List Command) (p : Problem) (a : CheckAnswer) → IsFormedCheck (state_of cs) → IsCheckPosed (state_of cs) p → IsCheckAnswer budget p a → Means w (state_of cs) a
means w budget cs p Unsat f h is = unsatisfiable cs p h w (unsat_holds w budget p (well_formed (state_of cs) p f h) h.existentials is)
means w budget cs p Sat f h is = satisfiable cs p h (sat_refuted budget p (well_formed (state_of cs) p f h) is)
means w budget cs p (Unknown cause) f h is = tt

shows : (cs : List Command) (p : Problem) (m : Option Shown) → IsCheckPosed (state_of cs) p → IsModelShown p m → ShowsModels (state_of cs) m
shows cs p None posed is = tt
shows cs p (Some x) posed (m, us, k, t, v) = record {
  problem = p;
  model = m;
  constants = us;
  posed = posed;
  fit = k.fit ∙ ap length posed.universals;
  satisfies = satisfied cs p (meaning_of m) us posed k.fit k.fails;
  shown = t;
  values = v;
}

means_all_of : (w : Meaning) (budget : ℕ) (cs : List Command) (p : Problem) (a : Checked) → IsFormedCheck (state_of cs) → IsCheckPosed (state_of cs) p → IsChecked budget p a → MeansAll w (state_of cs) a
means_all_of w budget cs p a f h is = (means w budget cs p a.answer f h is.0, shows cs p a.model h is.1)

pub all_mean : (w : Meaning) (budget : ℕ) (qs : List (List Command)) (ps : List Problem) (xs : List Checked) → All IsFormedCheck (map state_of qs) → ArePosed (map state_of qs) ps → AreCheckAnswers budget ps xs
    → AllMean w (map state_of qs) xs
all_mean w budget [] [] [] f h is = tt
all_mean w budget [] [] (a ∷ xs) f h is = absurd is
all_mean w budget [] (p ∷ ps) xs f h is = absurd h
all_mean w budget (q ∷ qs) [] xs f h is = absurd h
all_mean w budget (q ∷ qs) (p ∷ ps) [] f h is = absurd is
all_mean w budget (q ∷ qs) (p ∷ ps) (a ∷ xs) f h is = (
  means_all_of w budget q p a (head IsFormedCheck (state_of q) (map state_of qs) f) h.0 is.0,
  all_mean w budget qs ps xs (tail IsFormedCheck (state_of q) (map state_of qs) f) h.1 is.1,
)

all_first : (w : Meaning) (ss : List State) (xs : List Checked) → AllMean w ss xs → FirstMean w ss xs
all_first w [] [] h = tt
all_first w [] (a ∷ xs) h = absurd h
all_first w (s ∷ ss) [] h = tt
all_first w (s ∷ ss) (a ∷ xs) h = (h.0, all_first w ss xs h.1)

pub first_mean : (w : Meaning) (budget : ℕ) (qs : List (List Command)) (ps : List Problem) (xs : List Checked) → All IsFormedCheck (map state_of qs) → ArePosed (map state_of qs) ps → AreFirstAnswers budget ps xs
    → FirstMean w (map state_of qs) xs
first_mean w budget qs [] xs f h is = absurd is
first_mean w budget qs (p ∷ ps) [] f h is = tt
first_mean w budget [] (p ∷ ps) (a ∷ xs) f h is = absurd h
first_mean w budget (q ∷ qs) (p ∷ ps) (a ∷ xs) f h is = (
  means_all_of w budget q p a (head IsFormedCheck (state_of q) (map state_of qs) f) h.0 is.0,
  first_mean w budget qs ps xs (tail IsFormedCheck (state_of q) (map state_of qs) f) h.1 is.1,
)

status_refused : (text name : List ℕ) (a : Answer) → a ≡ refused_after text name → (a.status ≡ 0) ⊎ (a.status ≡ 2) → ⊥
status_refused text name a e (inl h) = let bad : 3 ≡ 0 = sym (ap (λ (z : Answer). z.status) e) ∙ h in omega (arith, bad)
status_refused text name a e (inr h) = let bad : 3 ≡ 2 = sym (ap (λ (z : Answer). z.status) e) ∙ h in omega (arith, bad)

-- 2 where some check is unknown, else 0
abbrev checked_status : Bool → ℕ
checked_status b = cond b 2 0

never_three : (b : Bool) → checked_status b ≡ 3 → ⊥
never_three true e = cc
never_three false e = cc

-- the formulas of the checks of a script are sound
formed_script : (bytes : List ℕ) (ps : List Problem) (h : IsScriptOf bytes ps) → All IsFormedCheck (checks_in (read_as h.lists))
formed_script bytes ps h = text_checks bytes h.lists h.said h.posed.fits

pub means_all : (w : Meaning) (budget : ℕ) (bytes : List ℕ) (a : Answer) → IsSmtAnswer budget bytes a → (a.status ≡ 0) ⊎ (a.status ≡ 2) → Scripted w bytes a.text
means_all w budget bytes a (refused e text h k b is) s = absurd (status_refused text (refusal_name e) a is s)
means_all w budget bytes a (large ps told xs h are is) s = absurd (status_refused (replied told xs) (codes "Large") a is s)
means_all w budget bytes a (answered ps told xs h are is) s =
    record {
      lists = h.script.lists;
      said = h.script.said;
      fits = h.script.posed.fits;
      answers = xs;
      lines = ap (λ (z : Answer). z.text) is ∙ ap (λ z. replied z xs) h.replies;
      mean = all_mean w budget (questions (acts_of (read_as h.script.lists))) ps xs (formed_script bytes ps h.script) h.script.posed.posed are;
    }

-- what is told of a beginning of a text, before a refusal of this name
begun_means : (w : Meaning) (budget : ℕ) (whole bytes rest text name : List ℕ) → whole ≡ bytes ++ rest → IsBegun budget bytes text → ScriptedBefore w whole (text ++ (refused_answer name).text)
begun_means w budget whole bytes rest text name parts (told_whole ps told xs h are is) =
    let asked : List (List Command) = questions (acts_of (read_as h.script.lists)) in
    record {
      kept = bytes;
      rest = rest;
      parts = parts;
      lists = h.script.lists;
      said = h.script.said;
      fits = h.script.posed.fits;
      answers = xs;
      name = name;
      lines = ap (λ z. z ++ (refused_answer name).text) (is ∙ ap (λ z. replied z xs) h.replies);
      mean = all_first w (map state_of asked) xs (all_mean w budget asked ps xs (formed_script bytes ps h.script) h.script.posed.posed are);
    }
begun_means w budget whole bytes rest text name parts (told_short ps told xs h are is) =
    record {
      kept = bytes;
      rest = rest;
      parts = parts;
      lists = h.script.lists;
      said = h.script.said;
      fits = h.script.posed.fits;
      answers = xs;
      name = name;
      lines = ap (λ z. z ++ (refused_answer name).text) (is ∙ ap (λ z. replied z xs) h.replies);
      mean = first_mean w budget (questions (acts_of (read_as h.script.lists))) ps xs (formed_script bytes ps h.script) h.script.posed.posed are;
    }
begun_means w budget whole bytes rest text name parts (told_further e h m b) =
    let n : ℕ = last_cut bytes (place_in e) in
    let split : bytes ≡ take n bytes ++ drop n bytes = sym (take-append-drop n bytes) in
    begun_means w budget whole (take n bytes) (drop n bytes ++ rest) text name (parts ∙ ap (λ z. z ++ rest) split ∙ append_assoc (take n bytes) (drop n bytes) rest) b

-- an answer with a refusal
pub means_before : (w : Meaning) (budget : ℕ) (bytes : List ℕ) (a : Answer) → IsSmtAnswer budget bytes a → a.status ≡ 3 → ScriptedBefore w bytes a.text
means_before w budget bytes a (answered ps told xs h are is) s = absurd (never_three (list_any is_open xs) (sym (ap (λ (z : Answer). z.status) is) ∙ s))
means_before w budget bytes a (large ps told xs h are is) s =
    subst (ScriptedBefore w bytes) (sym (ap (λ (z : Answer). z.text) is)) (begun_means w budget bytes bytes [] (replied told xs) (codes "Large") (sym (append-nil bytes)) (told_short ps told xs h are refl))
means_before w budget bytes a (refused e text h m b is) s =
    let n : ℕ = last_cut bytes (place_in e) in
    subst (ScriptedBefore w bytes) (sym (ap (λ (z : Answer). z.text) is)) (begun_means w budget bytes (take n bytes) (drop n bytes) text (refusal_name e) (sym (take-append-drop n bytes)) b)

pub formed_all : (ss : List State) (ps : List Problem) → All IsFormedCheck ss → ArePosed ss ps → All IsWellFormed ps
formed_all [] [] f h = λ i d k. absurd (omega (arith, k))
formed_all [] (p ∷ ps) f h = absurd h
formed_all (s ∷ ss) [] f h = absurd h
formed_all (s ∷ ss) (p ∷ ps) f h = All-cons IsWellFormed p ps (well_formed s p (head IsFormedCheck s ss f) h.0) (formed_all ss ps (tail IsFormedCheck s ss f) h.1)

pub formed_of : (bytes : List ℕ) (ps xs : List Problem) → IsScriptOf bytes ps → xs ≡ ps → All IsWellFormed xs
formed_of bytes ps xs h is =
    subst (All IsWellFormed) (sym is) (formed_all (checks_in (read_as h.lists)) ps (text_checks bytes h.lists h.said h.posed.fits) h.posed.posed)

pub alone_all : (ss : List State) (ps : List Problem) → ArePosed ss ps → All (λ p. p.existentials ≡ []) ps
alone_all [] [] h = λ i d k. absurd (omega (arith, k))
alone_all [] (p ∷ ps) h = absurd h
alone_all (s ∷ ss) [] h = absurd h
alone_all (s ∷ ss) (p ∷ ps) h = All-cons (λ p. p.existentials ≡ []) p ps (h.0).existentials (alone_all ss ps h.1)

pub alone_of : (bytes : List ℕ) (ps xs : List Problem) → IsScriptOf bytes ps → xs ≡ ps → All (λ p. p.existentials ≡ []) xs
alone_of bytes ps xs h is = subst (All (λ p. p.existentials ≡ [])) (sym is) (alone_all (checks_in (read_as h.lists)) ps h.posed.posed)

unknown_status : (b : Bool) → IsAnswerStatus (cond b 2 0)
unknown_status true = refl
unknown_status false = refl

-- each answer has a status of answers
pub smt_status : (budget : ℕ) (bytes : List ℕ) (a : Answer) → IsSmtAnswer budget bytes a → IsAnswerStatus a.status
smt_status budget bytes a (answered ps told xs h are is) = subst (λ b. IsAnswerStatus b.status) (sym is) (unknown_status (list_any is_open xs))
smt_status budget bytes a (large ps told xs h are is) = subst (λ b. IsAnswerStatus b.status) (sym is) refl
smt_status budget bytes a (refused e text h k b is) = subst (λ b. IsAnswerStatus b.status) (sym is) refl
