-- Bounds of an integer from both sides, and the real and the dark shadow of them (Pugh 1992, the Omega test).
use Rattle.std.specs.Prelude.{ℤ, pos, neg_ℤ, ◌+ℤ◌, ◌-ℤ◌, ◌*ℤ◌, ◌≤ℤ◌, ◌<ℤ◌, ◌≡◌, List, All, Contains}
use Rattle.std.specs.Int.{int_div_euclid}

-- a lower bound factor·x + rest ≥ 0, or an upper bound −factor·x + rest ≥ 0
pub record Bound : Type 0 where
  pub factor : ℤ
  pub rest : ℤ

abbrev pub IsPositive : Bound → Type 0
IsPositive b = pos 0 <ℤ b.factor

abbrev pub HasUnitFactor : Bound → Type 0
HasUnitFactor b = b.factor ≡ pos 1

-- b·x + s
abbrev pub lower_at : ℤ → Bound → ℤ
lower_at x l = (l.factor *ℤ x) +ℤ l.rest

-- −a·x + α
abbrev pub upper_at : ℤ → Bound → ℤ
upper_at x u = (neg_ℤ u.factor *ℤ x) +ℤ u.rest

-- b·x + s ≥ 0
abbrev pub MeetsLower : ℤ → Bound → Type 0
MeetsLower x l = pos 0 ≤ℤ lower_at x l

-- −a·x + α ≥ 0
abbrev pub MeetsUpper : ℤ → Bound → Type 0
MeetsUpper x u = pos 0 ≤ℤ upper_at x u

-- x meets all lower bounds ls and all upper bounds us
pub record IsBetween (ls us : List Bound) (x : ℤ) : Type 0 where
  pub above : All (MeetsLower x) ls
  pub below : All (MeetsUpper x) us

-- b·α + a·s
abbrev pub shadow_at : Bound → Bound → ℤ
shadow_at l u = (l.factor *ℤ u.rest) +ℤ (u.factor *ℤ l.rest)

-- (a − 1)(b − 1)
abbrev pub gap_at : Bound → Bound → ℤ
gap_at l u = (u.factor -ℤ pos 1) *ℤ (l.factor -ℤ pos 1)

-- the real shadow: b·α + a·s ≥ 0 for each pair of a lower and an upper bound
abbrev pub InRealShadow : List Bound → List Bound → Type 0
InRealShadow ls us = All (λ l. All (λ u. pos 0 ≤ℤ shadow_at l u) us) ls

-- the dark shadow: b·α + a·s − (a − 1)(b − 1) ≥ 0 for each pair
abbrev pub InDarkShadow : List Bound → List Bound → Type 0
InDarkShadow ls us = All (λ l. All (λ u. pos 0 ≤ℤ (shadow_at l u -ℤ gap_at l u)) us) ls

-- the greatest i of the splinters b·x + s = i: the floor of (A·b − A − b)/A
abbrev pub last_splinter : ℤ → ℤ → ℤ
last_splinter a b = int_div_euclid (((a *ℤ b) -ℤ a) -ℤ b) a

-- x is on a splinter of the lower bounds: b·x + s is i for one of them and an i from 0 to the last one
pub record IsOnSplinter (a : ℤ) (ls : List Bound) (x : ℤ) : Type 0 where
  pub bound : Bound
  pub among : Contains ls bound
  pub at_least : pos 0 ≤ℤ lower_at x bound
  pub at_most : lower_at x bound ≤ℤ last_splinter a bound.factor
