-- Which answer `least` has where its work comes to its end.
use Rattle.std.specs.Prelude.{◌≡◌, ◌↔◌, ◌⊎◌, ℕ, ℤ, List, None, codes}
use Rattle.form_typed.specs.Formula.{Expression}
use Rattle.form_typed.specs.Truth.{Meaning}
use Rattle.pri_typing.specs.declared.problem.Problem.{Problem}
use Rattle.pri_typing.specs.Problems.{Holds}
use Rattle.base_answers.specs.Answer.{Answer, says_line}
use Rattle.pri_problem.specs.Answers.{Poses}
use Rattle.pri_problem.specs.Encoded.{Fits}
use Rattle.job_least.specs.Objective.{IsObjective}
use Rattle.job_least.specs.Outcomes.{out_of_steps, overflows, least_outcome}
use Rattle.job_least.specs.Meaning.{IsUnboundedOver}

-- the bytes pose the problem, which has no application and whose encoding fits, and the text is the term; with this budget the work
-- for it comes to its end
pub record IsLeastDecided (term : List ℕ) (budget : ℕ) (bytes : List ℕ) (p : Problem) (x : Expression) : Type 0 where
  pub poses : Poses bytes p
  pub pure : p.first_application ≡ None
  pub stated : IsObjective p term x
  pub fits : Fits p
  pub within_budget : ¬ (least_outcome budget x p ≡ out_of_steps)
  pub within_range : ¬ (least_outcome budget x p ≡ overflows)

-- the answer is that nothing satisfies the problem exactly where it holds nowhere, and that the term is unbounded exactly where it
-- has values below every integer where the problem holds; else it is a least value
pub record LeastDecides (w : Meaning) (p : Problem) (x : Expression) (answer : Answer) : Type 0 where
  pub decided : (answer.status ≡ 0) ⊎ (answer.status ≡ 1)
  pub unsatisfied : (answer.status ≡ 1) ↔ ((e : List ℤ) → ¬ (Holds w p e))
  pub unbounded : (answer ≡ says_line 0 (codes "unbounded")) ↔ IsUnboundedOver w p x
