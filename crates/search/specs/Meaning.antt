-- What the end of the canonical run says of the formula.
use Rattle.std.specs.Prelude.{◌≡◌, ℕ, ℤ, true, false, List, length}
use Rattle.form_typed.specs.Truth.{Meaning}
use Rattle.clause_set.specs.Literals.{dnf_truth}
use Rattle.elim_laws.specs.Whole.{AreOver}
use Rattle.formula.specs.Form.{Form, FormTruth, is_pure}
use Rattle.proof_tree.specs.Proof.{Proof, given}
use Rattle.solve_laws.specs.Best.{IsBest}
use Rattle.search.specs.Run.{RunAnswer, valid, invalid, saturated, too_long}

-- the constraint of the tree is over the n names and covers the formula: wherever it is true the formula is, in every
-- interpretation, and it is true nowhere else where the formula has no predicates and functions; the values are the best
-- that satisfy it
pub record IsFoundProof (f : Form) (n : ℕ) (vs : List ℤ) (x : Proof) : Type 0 where
  pub over : AreOver n (given x)
  pub covers : (w : Meaning) (e : List ℤ) → length e ≡ n → dnf_truth (given x) e ≡ true → FormTruth w f e
  pub exact : is_pure f ≡ true → (w : Meaning) (e : List ℤ) → length e ≡ n → FormTruth w f e → dnf_truth (given x) e ≡ true
  pub best : IsBest (dnf_truth (given x)) n vs

-- the formula has no predicates and functions, and is false at all integers, in every interpretation
pub record IsLost (f : Form) (n : ℕ) : Type 0 where
  pub pure : is_pure f ≡ true
  pub fails : (w : Meaning) (e : List ℤ) → length e ≡ n → ¬ (FormTruth w f e)

-- what an answer says of a formula f over n names; a run on a formula without predicates and functions is decided
abbrev pub Tells : Form → ℕ → RunAnswer → Type 0
Tells f n (valid vs x) = IsFoundProof f n vs x
Tells f n (invalid log x) = IsLost f n
Tells f n (saturated log x) = is_pure f ≡ false
Tells f n too_long = is_pure f ≡ false
