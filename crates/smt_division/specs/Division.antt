-- Euclid's quotient and remainder (SMT-LIB 2.6, theory Ints).
use Rattle.std.specs.Prelude.{ℕ, ◌-◌, ◌≡◌, ℤ, pos, ◌+ℤ◌, ◌-ℤ◌, ◌*ℤ◌, ◌≤ℤ◌, ◌<ℤ◌, unsigned_abs}

-- v = n·q + r, and r is at least 0 and below |n|
pub record IsDivision (v n q r : ℤ) : Type 0 where
  pub equation : v ≡ (n *ℤ q) +ℤ r
  pub not_negative : pos 0 ≤ℤ r
  pub below : r <ℤ pos (unsigned_abs n)

-- n·q ≤ v ≤ n·q + (|n| - 1): the condition that is made of a quotient q of v by n
pub record IsQuotient (v n q : ℤ) : Type 0 where
  pub low : (n *ℤ q) ≤ℤ v
  pub high : v ≤ℤ ((n *ℤ q) +ℤ pos (unsigned_abs n - 1))
