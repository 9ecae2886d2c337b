-- The range of coefficients: symmetric, so that negation stays inside it.
use Rattle.std.specs.Prelude.{ℤ, ◌<◌, ◌^◌, ◌*ℤ◌, ◌+ℤ◌, unsigned_abs, Bool, ◌&&◌, nat_lt, ◌≡◌, false, List, Contains}
use Rattle.std.specs.List.{list_all}
use Rattle.linear_term.specs.declared.range.Place.{Place}
use Rattle.linear_term.specs.declared.range.TermFault.{TermFault}
use Rattle.linear_term.specs.declared.range.TermFault.TheVariants.{Overflow, Memory}

-- z is a coefficient: its absolute value is below 2^127
abbrev pub InRange : ℤ → Type 0
InRange z = unsigned_abs z < 2 ^ 127

-- m·a + n·b stays in the range: both products and their sum do
pub record Stays (m a n b : ℤ) : Type 0 where
  pub left : InRange (m *ℤ a)
  pub right : InRange (n *ℤ b)
  pub whole : InRange ((m *ℤ a) +ℤ (n *ℤ b))

-- the four fields of a place are coefficients
pub record IsPlace (p : Place) : Type 0 where
  pub m : InRange p.m
  pub a : InRange p.a
  pub n : InRange p.n
  pub b : InRange p.b

-- whether z is a coefficient
abbrev pub is_in_range : ℤ → Bool
is_in_range z = nat_lt (unsigned_abs z) (2 ^ 127)

-- whether the number m·a + n·b of the place p stays in the range
unfoldable pub stays : Place → Bool
stays p = is_in_range (p.m *ℤ p.a) && is_in_range (p.n *ℤ p.b) && is_in_range ((p.m *ℤ p.a) +ℤ (p.n *ℤ p.b))

-- whether each of these numbers stays in the range
unfoldable pub all_stay : List Place → Bool
all_stay ps = list_all stays ps

-- why a call that computes the numbers ps is refused: one of them, which it names, leaves the range; or memory is short
abbrev pub IsCause : TermFault → List Place → Type 0
IsCause (Overflow p) ps = Contains ps p × (stays p ≡ false)
IsCause Memory ps = Unit {0}
