-- What the rules say of numbers.
use Rattle.std.specs.Prelude.{◌≡◌, ℕ, ◌<◌, ℤ, pos, neg_ℤ, ◌+ℤ◌, ◌*ℤ◌, ◌≤ℤ◌, ◌<ℤ◌, true}
use Rattle.std.specs.Int.{int_div_euclid}
use Rattle.base_integers.specs.Gcd.{gcd}
use Rattle.base_integers.specs.Divides.{divides}
use Rattle.clause_set.specs.Bezout.{Bezout}

-- z has the greatest common divisor g of a and b, as p·a + q·b with the least p that is not negative: p < b/g
pub record IsBezout (a b : ℤ) (z : Bezout) : Type 0 where
  pub divisor : z.g ≡ gcd a b
  pub sum : z.g ≡ (z.p *ℤ a) +ℤ (z.q *ℤ b)
  pub not_negative : pos 0 ≤ℤ z.p
  pub least : (z.p *ℤ z.g) <ℤ b

-- d divides t + r for some r from 1 to d − 1
abbrev pub HasRemainder : ℕ → ℤ → Type 0
HasRemainder d t = (r : ℕ) × (0 < r) × (r < d) × (divides d (t +ℤ pos r) ≡ true)

-- v = −u·t/g + k·d/g for some k
abbrev pub IsSolution : ℤ → Bezout → ℤ → ℤ → Type 0
IsSolution d z t v = (k : ℤ) × (v ≡ neg_ℤ (z.p *ℤ int_div_euclid t z.g) +ℤ (int_div_euclid d z.g *ℤ k))
