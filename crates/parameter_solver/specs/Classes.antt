-- Residue classes modulo a divisor.
use Rattle.std.specs.Prelude.{ℤ, pos, ◌≤ℤ◌, ◌<ℤ◌}
use Rattle.clause_set.specs.Literals.{IsDivisor}

-- r is a residue modulo the divisor m
pub record IsClass (m r : ℤ) : Type 0 where
  pub modulus : IsDivisor m
  pub not_negative : pos 0 ≤ℤ r
  pub below : r <ℤ m
