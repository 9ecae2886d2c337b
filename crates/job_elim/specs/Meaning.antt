-- What the answers of `elim` mean.
use Rattle.std.specs.Prelude.{◌≡◌, ◌↔◌, ℕ, ℤ, List}
use Rattle.form_typed.specs.Formula.{Formula}
use Rattle.form_typed.specs.Truth.{Meaning}
use Rattle.pri_typing.specs.declared.problem.Problem.{Problem}
use Rattle.pri_typing.specs.Problems.{Holds, IsTrueAt, Says, SpeaksOfExistentials}
use Rattle.base_answers.specs.Answer.{Answer}
use Rattle.pri_lines.specs.Constraint.{constraint_line}
use Rattle.pri_problem.specs.Reads.{Reads}

-- the bytes read as a problem, and the text prints a constraint of its existential constants alone that is true exactly where
-- the problem holds
pub record Constrained (w : Meaning) (bytes : List ℕ) (text : List ℕ) : Type 0 where
  pub problem : Problem
  pub reads : Reads bytes problem
  pub x : List ℕ
  pub printed : text ≡ constraint_line x
  pub constraint : Formula
  pub says : Says x problem constraint
  pub alone : SpeaksOfExistentials problem constraint
  pub exact : (e : List ℤ) → IsTrueAt w problem constraint e ↔ Holds w problem e

-- what an answer of `elim` to a file of these bytes means
abbrev pub ElimMeans : Meaning → List ℕ → Answer → Type 0
ElimMeans w bytes answer = answer.status ≡ 0 → Constrained w bytes answer.text
