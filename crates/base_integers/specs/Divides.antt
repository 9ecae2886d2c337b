-- Divisibility of integers, and congruence.
use Rattle.std.specs.Prelude.{ℕ, ◌≡◌, ◌%◌, ℤ, ◌*ℤ◌, ◌-ℤ◌, unsigned_abs, Bool, nat_eq}

-- d divides z: z is a multiple of d
pub record Divides (d z : ℤ) : Type 0 where
  pub quotient : ℤ
  pub is : z ≡ quotient *ℤ d

-- whether d divides z: d leaves nothing of the absolute value of z
abbrev pub divides : ℕ → ℤ → Bool
divides d z = nat_eq (unsigned_abs z % d) 0

-- a and b are congruent modulo d: d divides their difference
abbrev pub IsCongruent : ℤ → ℤ → ℤ → Type 0
IsCongruent d a b = Divides d (a -ℤ b)
