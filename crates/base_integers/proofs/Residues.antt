-- Residues modulo a positive number.
use Rattle.std.proofs.Common.{◌≡◌, ◌*◌, ◌+◌, ◌<◌, ◌/◌, ◌%◌, ℕ, true, ℤ, pos, negsuc, ◌+ℤ◌, ◌-ℤ◌, ◌*ℤ◌, neg_ℤ, ◌≤ℤ◌, ◌<ℤ◌, ap, arith}
use Rattle.std.specs.Int.{int_div_euclid, int_rem_euclid}
use Rattle.std.proofs.lemmas.Int.{ints}
use Rattle.std.proofs.lemmas.Nat.{div-add-mod'}
use Rattle.std.specs.Prelude.{◌↔◌}
use Rattle.base_integers.specs.Divides.{divides, IsCongruent}
use Rattle.base_integers.specs.Residue.{IsResidue, least_from, greatest_to}
use Rattle.base_integers.proofs.Ring.{neg-mul}
use Rattle.base_integers.proofs.Divisors.{congruent-trans, congruent-sym, Divides_from_test, test_from_Divides}
use Rattle.base_integers.proofs.Order.{mul_le_right, between_multiples}

pub rem-parts : (a d : ℤ) → pos 0 <ℤ d → a ≡ (int_div_euclid a d *ℤ d) +ℤ int_rem_euclid a d
rem-parts (pos a) (pos d) h = omega (arith, ints, div-add-mod' a d)
rem-parts (negsuc a) (pos d) h =
    let some : 0 < d = omega (arith, ints) in
    let parts : a / d * d + a % d ≡ a = div-add-mod' a d in
    let rest : a % d < d = omega arith in
    omega (arith, ints)
rem-parts a (negsuc d) h = absurd (omega (arith, ints))

pub rem-bounds : (a d : ℤ) → pos 0 <ℤ d → (pos 0 ≤ℤ int_rem_euclid a d) × (int_rem_euclid a d <ℤ d)
rem-bounds (pos a) (pos d) h =
    let some : 0 < d = omega (arith, ints) in
    let rest : a % d < d = omega arith in
    (omega (arith, ints), omega (arith, ints))
rem-bounds (negsuc a) (pos d) h =
    let some : 0 < d = omega (arith, ints) in
    let rest : a % d < d = omega arith in
    (omega (arith, ints), omega (arith, ints))
rem-bounds a (negsuc d) h = absurd (omega (arith, ints))

pub residue-is : (d a : ℤ) → pos 0 <ℤ d → IsResidue d a (int_rem_euclid a d)
residue-is d a h = record {
  not_negative = (rem-bounds a d h).0;
  below = (rem-bounds a d h).1;
  congruent = record { quotient = int_div_euclid a d; is = omega (arith, ints, rem-parts a d h) };
}

pub residue-only : (d a r s : ℤ) → pos 0 <ℤ d → IsResidue d a r → IsResidue d a s → r ≡ s
residue-only d a r s h f g =
    let first : ((g.congruent).quotient *ℤ d) <ℤ (((f.congruent).quotient *ℤ d) +ℤ d) =
    omega (arith, ints, (f.congruent).is, (g.congruent).is, f.not_negative, f.below, g.not_negative, g.below) in
    let second : ((f.congruent).quotient *ℤ d) <ℤ (((g.congruent).quotient *ℤ d) +ℤ d) =
    omega (arith, ints, (f.congruent).is, (g.congruent).is, f.not_negative, f.below, g.not_negative, g.below) in
    let le = between_multiples (g.congruent).quotient (f.congruent).quotient d h first in
    let ge = between_multiples (f.congruent).quotient (g.congruent).quotient d h second in
    let same : (f.congruent).quotient ≡ (g.congruent).quotient = omega (arith, ints, le, ge) in
    let products = ap (λ (z : ℤ). z *ℤ d) same in
    omega (arith, ints, (f.congruent).is, (g.congruent).is, products)

-- numbers that are congruent and less than d apart, in this order, are equal or in the other order
pub congruent_apart : (d x y : ℤ) → pos 0 <ℤ d → IsCongruent d x y → x <ℤ (y +ℤ d) → x ≤ℤ y
congruent_apart d x y h c lt =
    let first : (c.quotient *ℤ d) <ℤ ((pos 0 *ℤ d) +ℤ d) = omega (arith, ints, c.is) in
    let le : c.quotient ≤ℤ pos 0 = between_multiples c.quotient (pos 0) d h first in
    let not_negative : pos 0 ≤ℤ d = omega (arith, ints) in
    omega (arith, ints, c.is, mul_le_right c.quotient (pos 0) d not_negative le)

pub least_from-bound : (d r lo : ℤ) → pos 0 <ℤ d → lo ≤ℤ least_from d r lo
least_from-bound d r lo h = omega (arith, ints, (rem-bounds (r -ℤ lo) d h).0)

pub least_from-congruent : (d r lo : ℤ) → pos 0 <ℤ d → IsCongruent d (least_from d r lo) r
least_from-congruent d r lo h = record {
  quotient = neg_ℤ (int_div_euclid (r -ℤ lo) d);
  is = omega (arith, ints, rem-parts (r -ℤ lo) d h, neg-mul (int_div_euclid (r -ℤ lo) d) d);
}

pub least_from-least : (d r lo y : ℤ) → pos 0 <ℤ d → lo ≤ℤ y → IsCongruent d y r → least_from d r lo ≤ℤ y
least_from-least d r lo y h le c =
    let apart : IsCongruent d (least_from d r lo) y = congruent-trans d _ r y (least_from-congruent d r lo h) (congruent-sym d y r c) in
    congruent_apart d (least_from d r lo) y h apart (omega (arith, ints, (rem-bounds (r -ℤ lo) d h).1))

pub greatest_to-bound : (d r hi : ℤ) → pos 0 <ℤ d → greatest_to d r hi ≤ℤ hi
greatest_to-bound d r hi h = omega (arith, ints, (rem-bounds (hi -ℤ r) d h).0)

pub greatest_to-congruent : (d r hi : ℤ) → pos 0 <ℤ d → IsCongruent d (greatest_to d r hi) r
greatest_to-congruent d r hi h = record {
  quotient = int_div_euclid (hi -ℤ r) d;
  is = omega (arith, ints, rem-parts (hi -ℤ r) d h);
}

pub greatest_to-greatest : (d r hi y : ℤ) → pos 0 <ℤ d → y ≤ℤ hi → IsCongruent d y r → y ≤ℤ greatest_to d r hi
greatest_to-greatest d r hi y h le c =
    let apart : IsCongruent d y (greatest_to d r hi) = congruent-trans d y r _ c (congruent-sym d _ r (greatest_to-congruent d r hi h)) in
    congruent_apart d y (greatest_to d r hi) h apart (omega (arith, ints, (rem-bounds (hi -ℤ r) d h).1))

-- d divides a exactly where the residue of a is 0
pub divides-residue : (d : ℕ) (a : ℤ) → 0 < d → (divides d a ≡ true) ↔ (int_rem_euclid a (pos d) ≡ pos 0)
divides-residue d a some =
    let h : pos 0 <ℤ pos d = omega (arith, ints) in (
      λ e.
          let is = Divides_from_test d a e in
          residue-only (pos d) a (int_rem_euclid a (pos d)) (pos 0) h (residue-is (pos d) a h)
          (record { not_negative = omega (arith, ints); below = h; congruent = record { quotient = is.quotient; is = omega (arith, ints, is.is) } }),
      λ e.
          test_from_Divides d a (record { quotient = int_div_euclid a (pos d); is = omega (arith, ints, rem-parts a (pos d) h, e) }),
    )
