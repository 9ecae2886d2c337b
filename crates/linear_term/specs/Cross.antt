-- Bézout's equation between natural numbers.
use Rattle.std.specs.Prelude.{ℕ, ◌+◌, ◌*◌, ◌<◌, ◌≡◌}
use Rattle.linear_term.specs.declared.numbers.Cross.{Cross}

-- c has the greatest common divisor g of a = u·g and b = v·g, and p below v with p·a = g + n·b, where p is not 0; with
-- p = 0 it is g = b
pub record Crosses (a b : ℕ) (c : Cross) : Type 0 where
  pub u : ℕ
  pub v : ℕ
  pub a_is : a ≡ u * c.g
  pub b_is : b ≡ v * c.g
  pub positive : 0 < c.g
  pub at_zero : c.p ≡ 0 → c.g ≡ b
  pub above : 0 < c.p → c.p * a ≡ c.g + c.n * b
  pub p_below : c.p < v
  pub n_below : 0 < c.p → c.n < u
