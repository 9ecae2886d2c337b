-- Where the integers that satisfy a condition begin.
use Rattle.std.specs.Prelude.{◌≡◌, ◌≤ℤ◌, ◌<ℤ◌, ℤ, Bool, true, false, cond, List, [], ◌∷◌}
use Rattle.std.specs.Int.{int_min}
use Rattle.optimiser.specs.declared.floor.Floor.{Floor}
use Rattle.optimiser.specs.declared.floor.Floor.TheVariants.{Nowhere, At, Unbounded}

-- where the integers that satisfy p begin: nowhere, at the least of them, or below each integer there is another one
abbrev pub IsInfimum : (ℤ → Bool) → Floor → Type 0
IsInfimum p Nowhere = (v : ℤ) → p v ≡ false
IsInfimum p (At k) = (p k ≡ true) × ((v : ℤ) → p v ≡ true → k ≤ℤ v)
IsInfimum p Unbounded = (k : ℤ) → (v : ℤ) × ((p v ≡ true) × (v <ℤ k))

-- the lower of two
abbrev pub lower_of : Floor → Floor → Floor
lower_of Nowhere g = g
lower_of (At k) Nowhere = At k
lower_of (At k) (At m) = At (int_min k m)
lower_of (At k) Unbounded = Unbounded
lower_of Unbounded g = Unbounded

-- at v, if b
abbrev pub floor_when : Bool → ℤ → Floor
floor_when b v = cond b (At v) Nowhere

-- at the first of the numbers
abbrev pub first_floor : List ℤ → Floor
first_floor [] = Nowhere
first_floor (v ∷ vs) = At v
