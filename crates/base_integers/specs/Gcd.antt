-- The greatest common divisor.
use Rattle.std.specs.Prelude.{ℕ, zero, suc, ◌%◌, ◌≡◌, ℤ, pos, ◌+ℤ◌, ◌*ℤ◌, ◌≤ℤ◌, unsigned_abs, cond, nat_eq}
use Rattle.std.specs.Int.{IsGcd}

-- Euclid's algorithm for a and b in at most n steps
abbrev pub gcd_within : ℕ → ℕ → ℕ → ℕ
gcd_within zero a b = a
gcd_within (suc n) a b = cond (nat_eq b 0) a (gcd_within n b (a % b))

-- the greatest common divisor of two natural numbers, which Euclid's algorithm finds in at most b steps
unfoldable pub nat_gcd : ℕ → ℕ → ℕ
nat_gcd a b = gcd_within b a b

-- the greatest common divisor of two integers, which is not negative
unfoldable pub gcd : ℤ → ℤ → ℤ
gcd a b = pos (nat_gcd (unsigned_abs a) (unsigned_abs b))

-- g = p·a + q·b, for some p and q
pub record IsSumOfMultiples (a b g : ℤ) : Type 0 where
  pub p : ℤ
  pub q : ℤ
  pub is : g ≡ (p *ℤ a) +ℤ (q *ℤ b)

-- g is the greatest common divisor of the integers a and b, as a number that is not negative
pub record IsGcdOf (a b g : ℤ) : Type 0 where
  pub not_negative : pos 0 ≤ℤ g
  pub greatest : IsGcd (unsigned_abs a) (unsigned_abs b) (unsigned_abs g)
