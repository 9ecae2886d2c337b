-- Numbers below 2^63: a sum of two products of them stays in the range.
use Rattle.std.proofs.Common.{◌≡◌, ◌*◌, ◌<◌, ◌≤◌, ◌^◌, ℤ, ◌+ℤ◌, ◌*ℤ◌, FitsSigned, to_z, of_z, to_z-of_z, ap, ◌∙◌, mul-le-mul, arith}
use Rattle.std.specs.Prelude.{unsigned_abs}
use Rattle.std.proofs.lemmas.Int.{unsigned_abs-mul, fits_signed_mul, fits_signed_from_abs, ints}
use mir.Syntax.{w128}

-- the largest number below 2^63, squared, is below 2^126
pub small_product : (a b : ℤ) → unsigned_abs a < 2 ^ 63 → unsigned_abs b < 2 ^ 63 → unsigned_abs (a *ℤ b) < 2 ^ 126
small_product a b h k =
    let e : unsigned_abs (a *ℤ b) ≡ unsigned_abs a * unsigned_abs b = unsigned_abs-mul a b in
    let p : unsigned_abs a ≤ 9223372036854775807 = omega (arith, h) in
    let q : unsigned_abs b ≤ 9223372036854775807 = omega (arith, k) in
    let m : unsigned_abs a * unsigned_abs b ≤ 9223372036854775807 * 9223372036854775807 = mul-le-mul p q in
    omega (arith, e, m)

pub small_fits : (a b : ℤ) → unsigned_abs a < 2 ^ 63 → unsigned_abs b < 2 ^ 63 → FitsSigned w128 (a *ℤ b)
small_fits a b h k = fits_signed_mul w128 a b 9223372036854775807 9223372036854775807 (omega (arith, h)) (omega (arith, k)) (omega arith)

pub ruleset small = (small_product, small_fits)

pub exact_product : (a b x y : ℤ) → x ≡ a → y ≡ b → unsigned_abs a < 2 ^ 63 → unsigned_abs b < 2 ^ 63 → to_z w128 (of_z w128 (x *ℤ y)) ≡ a *ℤ b
exact_product a b x y e f h k =
    ap (λ z. to_z w128 (of_z w128 (z *ℤ y))) e ∙ ap (λ z. to_z w128 (of_z w128 (a *ℤ z))) f ∙ to_z-of_z (small_fits a b h k)

pub sum_fits : (x y : ℤ) → unsigned_abs x < 2 ^ 126 → unsigned_abs y < 2 ^ 126 → FitsSigned w128 (x +ℤ y)
sum_fits x y h k = fits_signed_from_abs w128 (x +ℤ y) (omega (arith, ints, h, k))

pub exact_sum : (a b p q x y : ℤ) → x ≡ a → y ≡ b → a ≡ p → b ≡ q → unsigned_abs a < 2 ^ 126 → unsigned_abs b < 2 ^ 126 → to_z w128 (of_z w128 (x +ℤ y)) ≡ p +ℤ q
exact_sum a b p q x y e f g i h k =
    ap (λ z. to_z w128 (of_z w128 (z +ℤ y))) e ∙ ap (λ z. to_z w128 (of_z w128 (a +ℤ z))) f ∙ to_z-of_z (sum_fits a b h k) ∙ ap (λ z. z +ℤ b) g ∙ ap (λ z. p +ℤ z) i
