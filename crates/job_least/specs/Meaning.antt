-- What the answers of `least` mean.
use Rattle.std.specs.Prelude.{◌≡◌, ◌⊎◌, ◌<◌, ◌≤ℤ◌, ◌<ℤ◌, ℕ, ℤ, List, codes, length, take}
use Rattle.base_integers.specs.Entry.{entry}
use Rattle.form_typed.specs.Formula.{Expression}
use Rattle.form_typed.specs.Truth.{Meaning, HasValue}
use Rattle.solve_laws.specs.Best.{IsNearer}
use Rattle.pri_typing.specs.declared.problem.Problem.{Problem}
use Rattle.pri_typing.specs.Problems.{Holds}
use Rattle.base_answers.specs.Answer.{Answer, line}
use Rattle.pri_problem.specs.Reads.{Reads}
use Rattle.job_least.specs.Objective.{IsObjective}
use Rattle.job_least.specs.Leasts.{least_text}

-- k is the least value of the term over all values of the existential constants at which the problem holds; it holds at vs, where the
-- term has the value k; and vs is the best of such lists: name by name, none that agrees with vs before has an entry there that is
-- nearer to 0
pub record IsLeastOver (w : Meaning) (p : Problem) (x : Expression) (k : ℤ) (vs : List ℤ) : Type 0 where
  pub holds : Holds w p vs
  pub value : HasValue w x vs (λ v. v ≡ k)
  pub least : (e : List ℤ) → Holds w p e → HasValue w x e (λ v. k ≤ℤ v)
  pub best : (e : List ℤ) → Holds w p e → HasValue w x e (λ v. v ≡ k) → (j : ℕ) → j < length p.existentials → take j e ≡ take j vs → ¬ (IsNearer (entry e j) (entry vs j))

-- for every integer k the problem holds at some values of its existential constants at which the term is below k
abbrev pub IsUnboundedOver : Meaning → Problem → Expression → Type 0
IsUnboundedOver w p x = (k : ℤ) → (e : List ℤ) × Holds w p e × HasValue w x e (λ v. v <ℤ k)

-- what the text says of the least value
abbrev pub TellsLeast : Meaning → Problem → Expression → List ℕ → Type 0
TellsLeast w p x text =
    ((k : ℤ) × (vs : List ℤ) × IsLeastOver w p x k vs × (text ≡ least_text p k vs)) ⊎ (IsUnboundedOver w p x × (text ≡ line (codes "unbounded")))

-- the bytes read as a problem, the text of the term is one of its existential constants, and the answer tells its least value
pub record Minimised (w : Meaning) (term bytes text : List ℕ) : Type 0 where
  pub problem : Problem
  pub reads : Reads bytes problem
  pub objective : Expression
  pub stated : IsObjective problem term objective
  pub tells : TellsLeast w problem objective text

-- the problem of the bytes holds at no values of its existential constants
pub record Unsatisfied (w : Meaning) (bytes : List ℕ) : Type 0 where
  pub problem : Problem
  pub reads : Reads bytes problem
  pub nowhere : (e : List ℤ) → ¬ (Holds w problem e)

-- what an answer of `least` means
pub record LeastAnswers (w : Meaning) (term bytes : List ℕ) (answer : Answer) : Type 0 where
  pub found : answer.status ≡ 0 → Minimised w term bytes answer.text
  pub none : answer.status ≡ 1 → Unsatisfied w bytes
