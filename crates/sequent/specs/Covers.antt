-- What a constraint says of a sequent. A constraint is spoken of by what it says: d e is whether it is true at the integers e.
use Rattle.std.specs.Prelude.{◌≡◌, ℤ, Bool, true, false, List, [], ◌∷◌, ◌++◌, length, ◌⊎◌}
use Rattle.form_typed.specs.Truth.{Meaning}
use Rattle.formula.specs.Form.{Form, conjunction, disjunction, universal, existential}
use Rattle.sequent.specs.Sequent.{Sequent, AreFalse, SequentTruth}

-- wherever the constraint is true, the sequent is
abbrev pub Covers : Meaning → (List ℤ → Bool) → Sequent → Type 0
Covers w d s = (e : List ℤ) → length e ≡ s.count → d e ≡ true → SequentTruth w s e

-- wherever the constraint is false, some interpretation makes every member false
abbrev pub IsTight : (List ℤ → Bool) → Sequent → Type 0
IsTight d s = (e : List ℤ) → length e ≡ s.count → d e ≡ false → (w : Meaning) × AreFalse w e s.members

-- each constraint covers its sequent, and there are as many
abbrev pub AreCovered : Meaning → List Sequent → List (List ℤ → Bool) → Type 0
AreCovered w [] [] = Unit {0}
AreCovered w (s ∷ ss) (d ∷ ds) = Covers w d s × AreCovered w ss ds
AreCovered w ss ds = ⊥

abbrev pub AreTight : List Sequent → List (List ℤ → Bool) → Type 0
AreTight [] [] = Unit {0}
AreTight (s ∷ ss) (d ∷ ds) = IsTight d s × AreTight ss ds
AreTight ss ds = ⊥

abbrev pub AreTrue : List (List ℤ → Bool) → List ℤ → Type 0
AreTrue [] e = Unit {0}
AreTrue (d ∷ ds) e = (d e ≡ true) × AreTrue ds e

abbrev pub IsOneFalse : List (List ℤ → Bool) → List ℤ → Type 0
IsOneFalse [] e = ⊥
IsOneFalse (d ∷ ds) e = (d e ≡ false) ⊎ IsOneFalse ds e

-- what the truth of a rule's constraint says of its premises' constraints, by the form of the principal
abbrev pub RuleTruth : Form → List (List ℤ → Bool) → List ℤ → Type 0
RuleTruth (conjunction fs) ds e = AreTrue ds e
RuleTruth (disjunction fs) ds e = AreTrue ds e
RuleTruth (universal f) ds e = (v : ℤ) → AreTrue ds (e ++ v ∷ [])
RuleTruth (existential f) ds e = ¬ ((v : ℤ) → ¬ (AreTrue ds (e ++ v ∷ [])))
RuleTruth _ ds e = ⊥

-- what its falsity says
abbrev pub RuleFalsity : Form → List (List ℤ → Bool) → List ℤ → Type 0
RuleFalsity (conjunction fs) ds e = IsOneFalse ds e
RuleFalsity (disjunction fs) ds e = IsOneFalse ds e
RuleFalsity (universal f) ds e = (v : ℤ) × IsOneFalse ds (e ++ v ∷ [])
RuleFalsity (existential f) ds e = (v : ℤ) → IsOneFalse ds (e ++ v ∷ [])
RuleFalsity _ ds e = ⊥
