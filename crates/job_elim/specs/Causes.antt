-- Where each answer of `elim` comes.
use Rattle.std.specs.Prelude.{◌≡◌, ◌≢◌, ◌↔◌, ◌⊎◌, ℕ, List, None, codes}
use Rattle.clause_set.specs.declared.literal.Literal.{Literal}
use Rattle.base_budget.specs.Ending.{Ending, IsMade, IsOutOfRange, IsOutOfSteps}
use Rattle.pri_typing.specs.declared.problem.Problem.{Problem}
use Rattle.base_answers.specs.Answer.{Answer, placed, refused_answer, unknown_answer}
use Rattle.pri_problem.specs.Reads.{Refusal, FirstRefusal}
use Rattle.pri_problem.specs.Refusals.{refusal_name}
use Rattle.pri_problem.specs.Refused.{ComesOf}
use Rattle.pri_problem.specs.Answers.{Poses}
use Rattle.pri_problem.specs.Pure.{ComesOfImpure, PosesImpure, PosesPure}
use Rattle.pri_problem.specs.Encoded.{Fits, IsLarge, LeavesRange}
use Rattle.job_elim.specs.Eliminated.{elimination_end}

-- the encoding of the problem fits, and its elimination with this budget ends so
abbrev pub ElimEnds : ℕ → List ℕ → (Ending (List (List Literal)) → Type 0) → Type 0
ElimEnds budget bytes Is = PosesPure bytes (λ p. Fits p × Is (elimination_end budget p))

-- the file is refused: by its first refusal, at an application, or as large
pub data IsElimRefused (bytes : List ℕ) : Type 0 where
  first : (r : Refusal) → FirstRefusal bytes r → IsElimRefused bytes
  impure : (at : ℕ) → PosesImpure bytes at → IsElimRefused bytes
  too_large : PosesPure bytes IsLarge → IsElimRefused bytes

-- each answer comes exactly where its row says, and a refusal with the name and the place
pub record ElimCauses (budget : ℕ) (bytes : List ℕ) (answer : Answer) : Type 0 where
  pub made : (answer.status ≡ 0) ↔ ElimEnds budget bytes IsMade
  pub steps : (answer ≡ unknown_answer (codes "steps")) ↔ ElimEnds budget bytes IsOutOfSteps
  pub overflow : (answer ≡ unknown_answer (codes "overflow")) ↔ (PosesPure bytes LeavesRange ⊎ ElimEnds budget bytes IsOutOfRange)
  pub refuses : (answer.status ≡ 3) ↔ IsElimRefused bytes
  pub never : answer.status ≢ 1
  pub refused : (r : Refusal) → FirstRefusal bytes r → answer ≡ refused_answer (refusal_name r)
  pub only : (r : Refusal) → answer ≡ refused_answer (refusal_name r) → ComesOf bytes r
  pub impure : (at : ℕ) → PosesImpure bytes at → answer ≡ refused_answer (placed (codes "Impure") at)
  pub impure_only : (at : ℕ) → answer ≡ refused_answer (placed (codes "Impure") at) → ComesOfImpure bytes at
  pub large : (answer ≡ refused_answer (codes "Large")) ↔ PosesPure bytes IsLarge

-- a problem without applications whose encoding fits gets its constraint, unless the budget ends or a number leaves the range
abbrev pub ElimDecides : ℕ → List ℕ → Answer → Type 0
ElimDecides budget bytes answer =
    (p : Problem) → Poses bytes p → p.first_application ≡ None → Fits p → ¬ (IsOutOfSteps (elimination_end budget p)) → ¬ (IsOutOfRange (elimination_end budget p)) → answer.status ≡ 0
