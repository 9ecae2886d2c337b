-- The answer of `find` by what was found, in code.
use Rattle.std.proofs.Common.{◌≡◌, ◌∙◌, ℕ, ℤ, Bool, List, length, Option, Result, Ok, Err, IfOk, sym, ap, subst, codes}
use Rattle.base_answers.specs.Answer.{answer_of, says_line}
use Rattle.base_answers.specs.declared.output.Output.{Output}
use Rattle.base_answers.specs.declared.form.ProofForm.{ProofForm}
use Rattle.job_find.specs.Found.{AnswersFound, found_answer, found_part, nowhere, run, tree_form, values}
use Rattle.job_seeking.specs.Sought.{IsClauseFileAt, IsProvedNowhere, IsSought}
use Rattle.job_seeking.specs.declared.searching.Sought.{Sought}
use Rattle.job_solve.specs.Proved.{AnswersRunAs, extended}
use Rattle.linear_term.specs.declared.range.Memory.{Memory}
use Rattle.pri_problem.specs.Encoded.{AnswersEncoded, Fits, runs}
use Rattle.pri_typing.specs.declared.problem.Problem.{Problem}

pub as_sought : (p : Problem) (s t : Sought) → s ≡ t → IsSought p s → IsSought p t
as_sought p s t is h = subst (IsSought p) is h

pub many_found : (p : Problem) (vs us : List ℤ) (file : List ℕ) → IsClauseFileAt p vs file → us ≡ vs → length us ≡ length p.existentials
many_found p vs us file is same = ap length same ∙ is.holds.count

pub values_found : (proves : Bool) (budget : ℕ) (p : Problem) (vs us : List ℤ) (file text : List ℕ) (r : Result Output Memory) → IsClauseFileAt p vs file → us ≡ vs → text ≡ file
    → IfOk r (λ o. answer_of o ≡ extended (found_answer p us) (found_part proves text)) → IfOk r (λ o. AnswersFound proves budget p (answer_of o))
values_found proves budget p vs us file text (Ok o) is same own e = values us text (subst (λ ws. IsClauseFileAt p ws text) (sym same) (subst (IsClauseFileAt p vs) (sym own) is)) e
values_found proves budget p vs us file text (Err m) is same own e = tt

pub nowhere_found : (proves : Bool) (budget : ℕ) (p : Problem) (r : Result Output Memory) → IsProvedNowhere p → IfOk r (λ o. answer_of o ≡ says_line 1 (codes "INVALID")) → IfOk r (λ o. AnswersFound proves budget p (answer_of o))
nowhere_found proves budget p (Ok o) is e = nowhere is e
nowhere_found proves budget p (Err m) is e = tt

pub run_found : (proves : Bool) (budget : ℕ) (p : Problem) (asked : Option ProofForm) (r : Result Output Memory) → asked ≡ tree_form proves → IfOk r (λ o. AnswersRunAs asked budget p (answer_of o)) → IfOk r (λ o. AnswersFound proves budget p (answer_of o))
run_found proves budget p asked (Ok o) is k = run (subst (λ f. AnswersRunAs f budget p (answer_of o)) is k)
run_found proves budget p asked (Err m) is k = tt

-- an answer to a problem whose encoding fits
pub encoded_found : (proves : Bool) (budget : ℕ) (p : Problem) (r : Result Output Memory) → Fits p → IfOk r (λ o. AnswersFound proves budget p (answer_of o)) → IfOk r (λ o. AnswersEncoded (AnswersFound proves budget) p (answer_of o))
encoded_found proves budget p (Ok o) fits k = runs fits k
encoded_found proves budget p (Err m) fits k = tt
