-- The answer of the canonical run, with the values that are shown after it.
use Rattle.std.proofs.Common.{◌≡◌, ◌∙◌, ℕ, ℤ, Bool, true, false, List, [], ◌∷◌, ◌++◌, length, drop, Option, None, Some, MatchOption, Result, Ok, Err, IfOk, refl, sym, ap, subst, append-nil, length-append, codes, arith, ◌<◌}
use Rattle.base_answers.specs.Answer.{Answer, answer_of, line, says_line}
use Rattle.base_answers.specs.declared.output.Output.{Output}
use Rattle.base_answers.specs.declared.form.ProofForm.{ProofForm}
use Rattle.form_encoding.specs.Problems.{problem_root}
use Rattle.form_encoding.proofs.Problems.{pure_is, root_over}
use Rattle.formula.specs.Form.{is_pure}
use Rattle.job_decide.specs.Shown.{AnswersShown, AreToShow, nothing, values}
use Rattle.base_budget.specs.Ending.{Ending}
use Rattle.job_solve.specs.Proved.{AnswersRunAs, IsProofPart, extended}
use Rattle.job_solve.specs.Solved.{AnswersRun, branch, closed, invalid, overflow, saturated, steps, valid}
use Rattle.job_solve.proofs.Meaning.{tells}
use Rattle.job_values.specs.Values.{AreFalseValues, no_model}
use Rattle.job_values.proofs.Refutes.{values_refute}
use Rattle.linear_term.specs.declared.range.Memory.{Memory}
use Rattle.model_printer.specs.Models.{model_text}
use Rattle.pri_typing.specs.Problems.{IsPure}
use Rattle.pri_typing.specs.WellFormed.{IsWellFormed}
use Rattle.pri_typing.specs.declared.problem.Problem.{Problem}
use Rattle.search.specs.Run as run

status_of : Answer → ℕ
status_of a = a.status

pub unextended : (a : Answer) → a ≡ extended a []
unextended a = ap (λ t. record { status = a.status; text = t }) (sym (append-nil a.text))

not_both : (b : Bool) → b ≡ true → b ≡ false → ⊥
not_both true h k = cc
not_both false h k = cc

-- where the run of a problem without predicates and functions says that it is invalid, it says no more
pub invalid_plain : (budget : ℕ) (p : Problem) (a : Answer) → IsWellFormed p → IsPure p → AnswersRun budget p a → a.status ≡ 1 → a ≡ says_line 1 (codes "INVALID")
invalid_plain budget p a formed pure (closed vs x stands text is none told e) one = let bad = sym one ∙ ap (λ (b : Answer). b.status) e in absurd cc
invalid_plain budget p a formed pure (valid vs x stands text is some printed e) one = let bad = sym one ∙ ap (λ (b : Answer). b.status) e in absurd cc
invalid_plain budget p a formed pure (invalid log x stands is e) one = e
invalid_plain budget p a formed pure (saturated log x stands is told) one =
    absurd (not_both (is_pure (problem_root p).value) ((pure_is p).1 pure) (tells budget p (root_over p formed) (run.saturated log x) stands is))
invalid_plain budget p a formed pure (branch stands is e) one = let bad = sym one ∙ ap (λ (b : Answer). b.status) e in absurd cc
invalid_plain budget p a formed pure (steps stands is e) one = let bad = sym one ∙ ap (λ (b : Answer). b.status) e in absurd cc
invalid_plain budget p a formed pure (overflow numbers stands is e) one = let bad = sym one ∙ ap (λ (b : Answer). b.status) e in absurd cc

-- the same place, where the answer has a part after it
pub shown_before : (shows : Bool) (p : Problem) (plain a : Answer) (part : List ℕ) → a ≡ extended plain part → AreToShow shows p a → AreToShow shows p plain
shown_before shows p plain a part whole h = record { asked = h.asked; invalid = sym (ap (λ (b : Answer). b.status) whole) ∙ h.invalid; alone = h.alone; pure = h.pure }

pub shown_behind : (shows : Bool) (p : Problem) (plain a : Answer) (part : List ℕ) → a ≡ extended plain part → AreToShow shows p plain → AreToShow shows p a
shown_behind shows p plain a part whole h = record { asked = h.asked; invalid = ap (λ (b : Answer). b.status) whole ∙ h.invalid; alone = h.alone; pure = h.pure }

-- an answer without values
pub nothing_shown : (shows : Bool) (asked : Option ProofForm) (budget : ℕ) (p : Problem) (a : Answer) → AnswersRunAs asked budget p a → ((vs : List ℤ) → AreToShow shows p a → ¬ (AreFalseValues budget p vs)) → AnswersShown shows asked budget p a
nothing_shown shows asked budget p a k none = record {
  plain = k.plain;
  answers = k.answers;
  lines = [];
  shown = nothing (λ vs here. none vs (shown_behind shows p k.plain a k.part k.whole here)) refl;
  part = k.part;
  is_part = k.is_part;
  whole = k.whole ∙ ap (λ q. extended q k.part) (unextended k.plain);
}

-- an answer with values
pub values_shown : (shows : Bool) (asked : Option ProofForm) (budget : ℕ) (p : Problem) (a b : Answer) (vs : List ℤ) → IsWellFormed p → IsPure p → (k : AnswersRunAs asked budget p a) → AreToShow shows p a → AreFalseValues budget p vs
    → ((part : List ℕ) → a.text ≡ line (codes "INVALID") ++ part → b ≡ extended (extended (says_line 1 (codes "INVALID")) (model_text p vs no_model)) part) → AnswersShown shows asked budget p b
values_shown shows asked budget p a b vs formed pure k here found so =
    let one = shown_before shows p k.plain a k.part k.whole here in
    let plain : k.plain ≡ says_line 1 (codes "INVALID") = invalid_plain budget p k.plain formed pure k.answers one.invalid in
    let text : a.text ≡ line (codes "INVALID") ++ k.part = ap (λ (c : Answer). c.text) k.whole ∙ ap (λ (q : Answer). q.text ++ k.part) plain in
    record {
      plain = k.plain;
      answers = k.answers;
      lines = model_text p vs no_model;
      shown = values vs one found refl;
      part = k.part;
      is_part = k.is_part;
      whole = so k.part text ∙ ap (λ q. extended (extended q (model_text p vs no_model)) k.part) (sym plain);
    }

-- the answer where no values are shown is that of the canonical run
pub unshown : (shows : Bool) (asked : Option ProofForm) (budget : ℕ) (p : Problem) (a : Answer) → (k : AnswersShown shows asked budget p a) → k.lines ≡ [] → AnswersRunAs asked budget p a
unshown shows asked budget p a k none = record {
  plain = k.plain;
  answers = k.answers;
  part = k.part;
  is_part = k.is_part;
  whole = k.whole ∙ ap (λ ls. extended (extended k.plain ls) k.part) none ∙ ap (λ q. extended q k.part) (sym (unextended k.plain));
}

-- where no proof is asked for there is no part
pub no_part : (asked : Option ProofForm) (p : Problem) (end : Ending run.RunAnswer) (part : List ℕ) → IsProofPart asked p end part → asked ≡ None → part ≡ []
no_part asked p end part is off = subst (λ a. IsProofPart a p end part) off is

-- without values, the answer of the canonical run
pub run_alone : (shows : Bool) (asked : Option ProofForm) (budget : ℕ) (p : Problem) (a : Answer) (k : AnswersShown shows asked budget p a) → AnswersRunAs asked budget p (extended k.plain k.part)
run_alone shows asked budget p a k = record { plain = k.plain; answers = k.answers; part = k.part; is_part = k.is_part; whole = refl }

-- ---- in code

abbrev AreFound : ℕ → Problem → Option (List ℤ) → Type 0
AreFound budget p found = MatchOption found ((vs : List ℤ) → ¬ (AreFalseValues budget p vs)) (AreFalseValues budget p)

pub some_of : (budget : ℕ) (p : Problem) (found : Option (List ℤ)) (vs : List ℤ) → found ≡ Some vs → AreFound budget p found → AreFalseValues budget p vs
some_of budget p found vs is h = subst (AreFound budget p) is h

pub none_of : (budget : ℕ) (p : Problem) (found : Option (List ℤ)) → found ≡ None → AreFound budget p found → (vs : List ℤ) → ¬ (AreFalseValues budget p vs)
none_of budget p found is h = subst (AreFound budget p) is h

pub values_many : (budget : ℕ) (p : Problem) (vs us : List ℤ) → IsWellFormed p → p.existentials ≡ [] → AreFalseValues budget p vs → us ≡ vs → length us ≡ length p.universals
values_many budget p vs us formed alone found same = ap length same ∙ (values_refute budget p vs formed alone found).fit

pub values_told : (shows : Bool) (asked : Option ProofForm) (budget : ℕ) (p : Problem) (a : Answer) (vs us : List ℤ) (r : Result Output Memory) → IsWellFormed p → IsPure p → AnswersRunAs asked budget p a → AreToShow shows p a → AreFalseValues budget p vs → us ≡ vs
    → IfOk r (λ o. (part : List ℕ) → a.text ≡ line (codes "INVALID") ++ part → answer_of o ≡ extended (extended (says_line 1 (codes "INVALID")) (model_text p us no_model)) part) → IfOk r (λ o. AnswersShown shows asked budget p (answer_of o))
values_told shows asked budget p a vs us (Ok o) formed pure k here found same h =
    values_shown shows asked budget p a (answer_of o) us formed pure k here (subst (AreFalseValues budget p) (sym same) found) h
values_told shows asked budget p a vs us (Err m) formed pure k here found same h = tt

pub behind_front : (n : ℕ) (first part text : List ℕ) → length first ≡ n → text ≡ first ++ part → drop n text ≡ part
behind_front n first part text many is = subst (λ t. drop n t ≡ part) (sym is) (subst (λ k. drop k (first ++ part) ≡ part) many (front first))
  where
    front : (xs : List ℕ) → drop (length xs) (xs ++ part) ≡ part
    front [] = refl
    front (x ∷ xs) = front xs

pub no_shorter : (n : ℕ) (first part text : List ℕ) → length text < n → length first ≡ n → text ≡ first ++ part → ⊥
no_shorter n first part text short many is = let whole = ap length is ∙ length-append first part in omega (arith, short, many, whole)
