-- Which integers are values of a type.
use Rattle.std.specs.Prelude.{ℤ, pos, ◌≤ℤ◌, List, [], ◌∷◌}
use Rattle.linear_term.specs.Range.{InRange}
use Rattle.form_typed.specs.declared.typed.Sort.{Sort}
use Rattle.form_typed.specs.declared.typed.Sort.TheVariants.{Int, Nat, Range}

-- v is a value of the type: of `int` each integer, of `nat` those from 0 on, of a range those between its bounds
abbrev pub IsValueOf : Sort → ℤ → Type 0
IsValueOf Int v = Unit {0}
IsValueOf Nat v = pos 0 ≤ℤ v
IsValueOf (Range a b) v = (a ≤ℤ v) × (v ≤ℤ b)

-- there are as many integers as types, and each is a value of the type at its place
abbrev pub AreValuesOf : List Sort → List ℤ → Type 0
AreValuesOf [] [] = Unit {0}
AreValuesOf [] (v ∷ e) = ⊥
AreValuesOf (s ∷ ss) [] = ⊥
AreValuesOf (s ∷ ss) (v ∷ e) = IsValueOf s v × AreValuesOf ss e

-- the bounds of the type are coefficients
abbrev pub IsSortRanged : Sort → Type 0
IsSortRanged (Range a b) = InRange a × InRange b
IsSortRanged _ = Unit {0}
