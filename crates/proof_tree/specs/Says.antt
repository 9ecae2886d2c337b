-- What the constraint of a rule says.
use Rattle.std.specs.Prelude.{◌≡◌, ℕ, ℤ, Bool, true, false, List, length, Option, Some, None}
use Rattle.std.specs.List.{slice_get}
use Rattle.form_typed.specs.Truth.{Meaning}
use Rattle.clause_set.specs.declared.literal.Literal.{Literal}
use Rattle.clause_set.specs.Kept.{AreFormed}
use Rattle.clause_set.specs.Literals.{dnf_truth}
use Rattle.formula.specs.Form.{FormTruth}
use Rattle.sequent.specs.Covers.{RuleTruth, RuleFalsity}
use Rattle.sequent.specs.Sequent.{Member, Sequent}
use Rattle.pred_unify.specs.Pairs.{closing_of}

-- what its truth says: of the constraints of the premises, or of the closing formula
abbrev pub TruthAt : Option Member → List (List ℤ → Bool) → List ℤ → Type 0
TruthAt None ds e = ⊥
TruthAt (Some m) ds e = RuleTruth m.formula ds e

abbrev pub TruthBy : Sequent → Option ℕ → List (List ℤ → Bool) → List ℤ → Type 0
TruthBy s None ds e = (w : Meaning) → FormTruth w (closing_of s).value e
TruthBy s (Some i) ds e = TruthAt (slice_get s.members i) ds e

-- what its falsity says
abbrev pub FalsityAt : Option Member → List (List ℤ → Bool) → List ℤ → Type 0
FalsityAt None ds e = ⊥
FalsityAt (Some m) ds e = RuleFalsity m.formula ds e

abbrev pub FalsityBy : Sequent → Option ℕ → List (List ℤ → Bool) → List ℤ → Type 0
FalsityBy s None ds e = (w : Meaning) → ¬ (FormTruth w (closing_of s).value e)
FalsityBy s (Some i) ds e = FalsityAt (slice_get s.members i) ds e

-- d is the constraint of a rule at this place, whose premises have the constraints ds
pub record IsConstraint (s : Sequent) (at : Option ℕ) (ds : List (List ℤ → Bool)) (d : List (List Literal)) : Type 0 where
  pub formed : AreFormed d
  pub yes : (e : List ℤ) → length e ≡ s.count → dnf_truth d e ≡ true → TruthBy s at ds e
  pub no : (e : List ℤ) → length e ≡ s.count → dnf_truth d e ≡ false → FalsityBy s at ds e
