-- The tests of literals at multiples.
use Rattle.std.proofs.Common.{◌≡◌, ◌*◌, ℤ, pos, ◌*ℤ◌, ◌≤ℤ◌, ◌<ℤ◌, unsigned_abs, int_le, sym, ◌∙◌, ap, arith}
use Rattle.std.specs.Bool.{Decides}
use Rattle.std.specs.Ordering.{int_eq}
use Rattle.std.proofs.lemmas.Int.{ints, unsigned_abs-mul}
use Rattle.std.proofs.lemmas.Bool.Decides.{Decides-int_eq, same_from_decides}
use lib.IntN.{*ℤ_comm}
use Rattle.base_integers.specs.Divides.{divides}
use Rattle.base_integers.proofs.Order.{mul_cancel, mul_le_right, le_of_mul_le}
use Rattle.base_integers.proofs.Divisors.{divides-product}
use Rattle.clause_set.proofs.NormalTruth.{size_positive}

pub le_decides : (a b : ℤ) → Decides (int_le a b) (a ≤ℤ b)
le_decides a b = (λ h. grind (arith, ints), λ h. grind (arith, ints))

pub zero_scaled : (m z : ℤ) → pos 0 <ℤ m → int_eq (m *ℤ z) (pos 0) ≡ int_eq z (pos 0)
zero_scaled m z h =
    same_from_decides (int_eq (m *ℤ z) (pos 0)) (int_eq z (pos 0)) (
      λ t. let e : m *ℤ z ≡ pos 0 = (Decides-int_eq (m *ℤ z) (pos 0)).0 t in mul_cancel z (pos 0) m h (omega (arith, ints, e)),
      λ e. (Decides-int_eq (m *ℤ z) (pos 0)).1 (ap (λ k. m *ℤ k) e ∙ omega (arith, ints)),
    )
    (Decides-int_eq z (pos 0))

pub bound_scaled : (m z : ℤ) → pos 0 <ℤ m → int_le (pos 0) (m *ℤ z) ≡ int_le (pos 0) z
bound_scaled m z h =
    same_from_decides (int_le (pos 0) (m *ℤ z)) (int_le (pos 0) z) (
      λ t. let le = (le_decides (pos 0) (m *ℤ z)).0 t in le_of_mul_le (pos 0) z m h (omega (arith, ints, le)),
      λ le. (le_decides (pos 0) (m *ℤ z)).1 (omega (arith, ints, mul_le_right (pos 0) z m (omega (arith, ints)) le)),
    )
    (le_decides (pos 0) z)

-- d·m divides m·z exactly where d divides z
pub divides_scaled : (d m z : ℤ) → pos 0 <ℤ m → divides (unsigned_abs (d *ℤ m)) (m *ℤ z) ≡ divides (unsigned_abs d) z
divides_scaled d m z h =
    ap (λ n. divides n (m *ℤ z)) (unsigned_abs-mul d m)
    ∙ ap (λ k. divides (unsigned_abs d * unsigned_abs m) k) (*ℤ_comm m z ∙ ap (λ k. z *ℤ k) (sym (size_positive m h)))
    ∙ divides-product (unsigned_abs d) (unsigned_abs m) z (omega (arith, ints))
