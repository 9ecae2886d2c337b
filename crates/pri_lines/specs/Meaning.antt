-- What a printed constraint and values say of a problem.
use Rattle.std.specs.Prelude.{◌≡◌, ℕ, ℤ, true, List, length}
use Rattle.form_typed.specs.Formula.{Formula}
use Rattle.form_typed.specs.Truth.{Meaning}
use Rattle.clause_set.specs.declared.literal.Literal.{Literal}
use Rattle.clause_set.specs.Literals.{dnf_truth}
use Rattle.formula.specs.Form.{FormTruth}
use Rattle.elim_laws.specs.Whole.{AreOver}
use Rattle.form_encoding.specs.Problems.{problem_root}
use Rattle.pri_typing.specs.declared.problem.Problem.{Problem}
use Rattle.pri_typing.specs.Problems.{Holds, IsTrueAt, Says, SpeaksOfExistentials}

-- the constraint d is over the existential constants and covers the encoding of the problem: wherever it is true the encoding is,
-- in every interpretation; the values vs satisfy it
pub record CoversRoot (p : Problem) (d : List (List Literal)) (vs : List ℤ) : Type 0 where
  pub over : AreOver (length p.existentials) d
  pub covers : (w : Meaning) (e : List ℤ) → length e ≡ length p.existentials → dnf_truth d e ≡ true → FormTruth w (problem_root p).value e
  pub many : length vs ≡ length p.existentials
  pub satisfies : dnf_truth d vs ≡ true

-- the printed constraint x and values vs of a problem: at each value of the existential constants satisfying the constraint the
-- problem holds; the printed values satisfy it
pub record Supports (w : Meaning) (p : Problem) (x : List ℕ) (vs : List ℤ) : Type 0 where
  pub constraint : Formula
  pub says : Says x p constraint
  pub alone : SpeaksOfExistentials p constraint
  pub holds : (e : List ℤ) → IsTrueAt w p constraint e → Holds w p e
  pub solved : IsTrueAt w p constraint vs
