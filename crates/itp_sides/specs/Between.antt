-- What stands between two formulas over the constants of a problem (Craig, Three uses of the Herbrand-Gentzen theorem in relating
-- model theory and proof theory, 1957): the strongest and the weakest such condition, and how neighbouring ones follow.
use Rattle.std.specs.Prelude.{◌≡◌, ◌↔◌, ◌<◌, ℕ, ℤ, true, List, length}
use Rattle.base_integers.specs.Entry.{entry}
use Rattle.form_typed.specs.Formula.{Formula}
use Rattle.form_typed.specs.Sorts.{AreValuesOf}
use Rattle.form_typed.specs.Truth.{Meaning, Truth}
use Rattle.pri_typing.specs.declared.problem.Problem.{Problem}
use Rattle.form_encoding.specs.Occurrences.{occurs}
use Rattle.form_encoding.specs.Problems.{constants, types}

-- as many integers as constants, each a value of its constant's type
pub record AreTyped (p : Problem) (e : List ℤ) : Type 0 where
  pub many : length e ≡ constants p
  pub typed : AreValuesOf (types p) e

-- the two formulas are true together at no values of the constants' types
abbrev pub Contradict : Meaning → Problem → Formula → Formula → Type 0
Contradict w p f g = (e : List ℤ) → AreTyped p e → Truth w f e → ¬ (Truth w g e)

-- a condition on the values of the constants
abbrev pub Condition : Type 1
Condition = List ℤ → Type 0

-- d differs from e at names alone that do not stand in the formula
pub record AgreeOn (f : Formula) (e d : List ℤ) : Type 0 where
  pub long : length d ≡ length e
  pub same : (x : ℕ) → x < length e → occurs x f ≡ true → entry d x ≡ entry e x

-- The condition is true exactly where `first` is for some values of the constants that do not stand in `second`: the strongest
-- one that follows from `first` and is the same whatever those constants are. All values are of the constants' types.
abbrev pub IsStrongest : Meaning → Problem → Formula → Formula → Condition → Type 0
IsStrongest w p first second c = (e : List ℤ) → AreTyped p e → c e ↔ (¬ ((d : List ℤ) → AreTyped p d → AgreeOn second e d → ¬ (Truth w first d)))

-- The condition is true exactly where `second` is false whatever the constants are that do not stand in `first`: the weakest
-- one that contradicts `second` and is the same whatever those constants are. All values are of the constants' types.
abbrev pub IsWeakest : Meaning → Problem → Formula → Formula → Condition → Type 0
IsWeakest w p first second c = (e : List ℤ) → AreTyped p e → c e ↔ ((d : List ℤ) → AreTyped p d → AgreeOn first e d → ¬ (Truth w second d))

-- One set of parts goes from the second side to the first: `wider` says what `first` and `between` say, `second` what `between`
-- and `narrower` say, and their names are names of the whole.
pub record IsSetPassed (w : Meaning) (p : Problem) (first second between wider narrower : Formula) : Type 0 where
  pub joins : (e : List ℤ) → AreTyped p e → Truth w wider e ↔ (Truth w first e × Truth w between e)
  pub splits : (e : List ℤ) → AreTyped p e → Truth w second e ↔ (Truth w between e × Truth w narrower e)
  pub first_names : (x : ℕ) → occurs x first ≡ true → occurs x wider ≡ true
  pub between_names : (x : ℕ) → occurs x between ≡ true → occurs x wider ≡ true
  pub between_left : (x : ℕ) → occurs x between ≡ true → occurs x second ≡ true
  pub narrower_left : (x : ℕ) → occurs x narrower ≡ true → occurs x second ≡ true

-- where the set between is true, the later condition follows from the earlier one
abbrev pub Leads : Meaning → Problem → Condition → Formula → Condition → Type 0
Leads w p earlier between later = (e : List ℤ) → AreTyped p e → earlier e → Truth w between e → later e
