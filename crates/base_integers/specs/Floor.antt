-- Division rounded down.
use Rattle.std.specs.Prelude.{ℤ, ◌+ℤ◌, ◌*ℤ◌, ◌≤ℤ◌, ◌<ℤ◌}

-- q is the floor of a / b for a positive b: the greatest integer with q·b ≤ a
pub record IsFloor (a b q : ℤ) : Type 0 where
  pub below : (q *ℤ b) ≤ℤ a
  pub greatest : a <ℤ ((q *ℤ b) +ℤ b)
