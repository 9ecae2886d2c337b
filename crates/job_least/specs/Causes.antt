-- Where each answer of `least` comes.
use Rattle.std.specs.Prelude.{◌≡◌, ◌≢◌, ◌↔◌, ◌⊎◌, ℕ, List, None, codes}
use Rattle.form_typed.specs.Formula.{Expression}
use Rattle.pri_typing.specs.declared.problem.Problem.{Problem}
use Rattle.base_answers.specs.Answer.{Answer, placed, refused_answer, unknown_answer}
use Rattle.pri_problem.specs.Reads.{Refusal, FirstRefusal}
use Rattle.pri_problem.specs.Refusals.{refusal_name}
use Rattle.pri_problem.specs.Refused.{ComesOf}
use Rattle.pri_problem.specs.Answers.{Poses}
use Rattle.pri_problem.specs.Pure.{ComesOfImpure, PosesImpure, PosesPure}
use Rattle.pri_problem.specs.Encoded.{Fits, IsLarge, LeavesRange}
use Rattle.optimiser.specs.Least.{Minimum, nothing}
use Rattle.job_least.specs.Objective.{IsNoObjective, IsObjective}
use Rattle.job_least.specs.Outcomes.{Outcome, said, out_of_steps, overflows, least_outcome, outcome_answer}

-- the bytes pose a problem without applications, and the text is no term of its existential constants
abbrev pub PosesNoObjective : List ℕ → List ℕ → Type 0
PosesNoObjective term bytes = PosesPure bytes (λ p. IsNoObjective p term)

-- they pose a problem without applications, the text is a term of its existential constants, and the two are so
abbrev pub PosesTerm : List ℕ → List ℕ → (Problem → Expression → Type 0) → Type 0
PosesTerm term bytes Is = PosesPure bytes (λ p. (x : Expression) × IsObjective p term x × Is p x)

-- the encoding of that problem fits, and the work for the term with this budget comes out so
abbrev pub LeastEnds : List ℕ → ℕ → List ℕ → (Outcome → Type 0) → Type 0
LeastEnds term budget bytes Is = PosesTerm term bytes (λ p x. Fits p × Is (least_outcome budget x p))

-- there is a least value, or no integer is below all values
abbrev pub IsMinimised : Outcome → Type 0
IsMinimised o = (m : Minimum) × (o ≡ said m) × (m ≢ nothing)

-- it is refused: the file by its first refusal or at an application; the term; or the problem as large
pub data IsLeastRefused (term bytes : List ℕ) : Type 0 where
  first : (r : Refusal) → FirstRefusal bytes r → IsLeastRefused term bytes
  impure : (at : ℕ) → PosesImpure bytes at → IsLeastRefused term bytes
  no_objective : PosesNoObjective term bytes → IsLeastRefused term bytes
  too_large : PosesTerm term bytes (λ p x. IsLarge p) → IsLeastRefused term bytes

-- each answer comes exactly where its row says, and a refusal with the name and the place
pub record LeastCauses (term : List ℕ) (budget : ℕ) (bytes : List ℕ) (answer : Answer) : Type 0 where
  pub ends : (p : Problem) (x : Expression) → Poses bytes p → p.first_application ≡ None → IsObjective p term x → Fits p → answer ≡ outcome_answer p (least_outcome budget x p)
  pub found : (answer.status ≡ 0) ↔ LeastEnds term budget bytes IsMinimised
  pub none : (answer.status ≡ 1) ↔ LeastEnds term budget bytes (λ o. o ≡ said nothing)
  pub steps : (answer ≡ unknown_answer (codes "steps")) ↔ LeastEnds term budget bytes (λ o. o ≡ out_of_steps)
  pub overflow : (answer ≡ unknown_answer (codes "overflow")) ↔ (PosesTerm term bytes (λ p x. LeavesRange p) ⊎ LeastEnds term budget bytes (λ o. o ≡ overflows))
  pub refuses : (answer.status ≡ 3) ↔ IsLeastRefused term bytes
  pub objective : (answer ≡ refused_answer (codes "Objective")) ↔ PosesNoObjective term bytes
  pub refused : (r : Refusal) → FirstRefusal bytes r → answer ≡ refused_answer (refusal_name r)
  pub only : (r : Refusal) → answer ≡ refused_answer (refusal_name r) → ComesOf bytes r
  pub impure : (at : ℕ) → PosesImpure bytes at → answer ≡ refused_answer (placed (codes "Impure") at)
  pub impure_only : (at : ℕ) → answer ≡ refused_answer (placed (codes "Impure") at) → ComesOfImpure bytes at
  pub large : (answer ≡ refused_answer (codes "Large")) ↔ PosesTerm term bytes (λ p x. IsLarge p)
