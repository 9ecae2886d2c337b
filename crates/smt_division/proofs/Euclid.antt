-- Euclid's quotient is the one integer that meets the condition of a quotient.
use Rattle.std.proofs.Common.{◌≡◌, ◌≢◌, ℕ, suc, ◌+◌, ◌-◌, ◌<◌, ℤ, pos, negsuc, ◌+ℤ◌, ◌-ℤ◌, ◌*ℤ◌, neg_ℤ, ◌≤ℤ◌, ◌<ℤ◌, ◌↔◌, Bool, true, refl, sym, ap, subst, ◌∙◌, arith}
use Rattle.std.specs.Prelude.{unsigned_abs}
use Rattle.std.specs.Int.{int_div_euclid}
use Rattle.std.proofs.lemmas.Int.{ints}
use lib.IntN.{*ℤ_comm}
use Rattle.base_integers.specs.Floor.{IsFloor}
use Rattle.base_integers.proofs.Ring.{neg-mul, mul-neg}
use Rattle.base_integers.proofs.Floors.{floor-is, floor-only}
use Rattle.smt_division.specs.Division.{IsDivision, IsQuotient}

from_floor : (v q : ℤ) (m : ℕ) → 0 < m → IsFloor v (pos m) q → IsQuotient v (pos m) q
from_floor v q m h f = record { low = omega (arith, ints, f.below, *ℤ_comm (pos m) q); high = omega (arith, ints, f.greatest, *ℤ_comm (pos m) q) }

to_floor : (v q : ℤ) (m : ℕ) → 0 < m → IsQuotient v (pos m) q → IsFloor v (pos m) q
to_floor v q m h f = record { below = omega (arith, ints, f.low, *ℤ_comm (pos m) q); greatest = omega (arith, ints, f.high, *ℤ_comm (pos m) q) }

-- the product by a negative number
turned : (q : ℤ) (b : ℕ) → negsuc b *ℤ q ≡ neg_ℤ q *ℤ pos (suc b)
turned q b = *ℤ_comm (negsuc b) q ∙ mul-neg q (pos (suc b)) ∙ sym (neg-mul q (pos (suc b)))

from_turned : (v q : ℤ) (b : ℕ) → IsFloor v (pos (suc b)) (neg_ℤ q) → IsQuotient v (negsuc b) q
from_turned v q b f = record { low = omega (arith, ints, f.below, turned q b); high = omega (arith, ints, f.greatest, turned q b) }

to_turned : (v q : ℤ) (b : ℕ) → IsQuotient v (negsuc b) q → IsFloor v (pos (suc b)) (neg_ℤ q)
to_turned v q b f = record { below = omega (arith, ints, f.low, turned q b); greatest = omega (arith, ints, f.high, turned q b) }

neg_quotient : (v : ℤ) (b : ℕ) → neg_ℤ (int_div_euclid v (negsuc b)) ≡ int_div_euclid v (pos (suc b))
neg_quotient (pos a) b = omega (arith, ints)
neg_quotient (negsuc a) b = omega (arith, ints)

pub quotient_is : (v n : ℤ) → n ≢ pos 0 → IsQuotient v n (int_div_euclid v n)
quotient_is v (pos m) h =
    let some : 0 < m = omega (arith, ints, λ (e : m ≡ 0). h (ap pos e)) in
    from_floor v (int_div_euclid v (pos m)) m some (floor-is v (pos m) (omega (arith, ints)))
quotient_is v (negsuc b) h =
    from_turned v (int_div_euclid v (negsuc b)) b (subst (IsFloor v (pos (suc b))) (sym (neg_quotient v b)) (floor-is v (pos (suc b)) (omega (arith, ints))))

pub quotient_only : (v n p q : ℤ) → n ≢ pos 0 → IsQuotient v n p → IsQuotient v n q → p ≡ q
quotient_only v (pos m) p q h f g =
    let some : 0 < m = omega (arith, ints, λ (e : m ≡ 0). h (ap pos e)) in
    floor-only v (pos m) p q (omega (arith, ints)) (to_floor v p m some f) (to_floor v q m some g)
quotient_only v (negsuc b) p q h f g =
    let same : neg_ℤ p ≡ neg_ℤ q = floor-only v (pos (suc b)) (neg_ℤ p) (neg_ℤ q) (omega (arith, ints)) (to_turned v p b f) (to_turned v q b g) in
    omega (arith, ints)

pub quotient_some : (v n : ℤ) (holds : ℤ → Bool) → n ≢ pos 0 → ((q : ℤ) × IsQuotient v n q × (holds q ≡ true)) ↔ (holds (int_div_euclid v n) ≡ true)
quotient_some v n holds h =
    (λ some. ap holds (quotient_only v n (int_div_euclid v n) some.0 h (quotient_is v n h) some.1) ∙ some.2, λ here. (int_div_euclid v n, quotient_is v n h, here))

pub division_is : (v n q : ℤ) → n ≢ pos 0 → IsQuotient v n q → IsDivision v n q (v -ℤ (n *ℤ q))
division_is v (pos m) q h f =
    let some : 0 < m = omega (arith, ints, λ (e : m ≡ 0). h (ap pos e)) in
    record { equation = omega (arith, ints); not_negative = omega (arith, ints, f.low); below = omega (arith, ints, f.high) }
division_is v (negsuc b) q h f = record { equation = omega (arith, ints); not_negative = omega (arith, ints, f.low); below = omega (arith, ints, f.high) }
