-- Residues modulo a positive number, and the numbers of one residue next to a bound.
use Rattle.std.specs.Prelude.{ℤ, pos, ◌+ℤ◌, ◌-ℤ◌, ◌≤ℤ◌, ◌<ℤ◌}
use Rattle.std.specs.Int.{int_rem_euclid}
use Rattle.base_integers.specs.Divides.{IsCongruent}

-- r is the residue of a modulo d: the number from 0 to d - 1 that is congruent to a
pub record IsResidue (d a r : ℤ) : Type 0 where
  pub not_negative : pos 0 ≤ℤ r
  pub below : r <ℤ d
  pub congruent : IsCongruent d a r

-- the least number from lo on that is congruent to r modulo d
abbrev pub least_from : ℤ → ℤ → ℤ → ℤ
least_from d r lo = lo +ℤ int_rem_euclid (r -ℤ lo) d

-- the greatest number up to hi that is congruent to r modulo d
abbrev pub greatest_to : ℤ → ℤ → ℤ → ℤ
greatest_to d r hi = hi -ℤ int_rem_euclid (hi -ℤ r) d
