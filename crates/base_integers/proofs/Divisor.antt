-- The greatest common divisor: Euclid's algorithm finds it, it is a sum of multiples, and what follows.
use Rattle.std.proofs.Common.{◌≡◌, ◌≢◌, ◌<◌, ◌≤◌, ◌%◌, ◌/◌, ℕ, zero, suc, ℤ, pos, ◌+ℤ◌, ◌-ℤ◌, ◌*ℤ◌, ◌≤ℤ◌, ◌<ℤ◌, Bool, true, false, cond, nat_eq, sym, ◌∙◌, ap, refl, arith}
use Rattle.std.specs.Prelude.{unsigned_abs}
use Rattle.std.specs.Int.{IsGcd}
use Rattle.std.proofs.lemmas.Int.{ints, by_lt_z}
use Rattle.std.proofs.lemmas.Bool.Decides.{nat_tests}
use Rattle.std.proofs.lemmas.Nat.Gcd.{IsGcd-from_zero, IsGcd-from_mod, IsGcd-swap, same_from_IsGcd}
use Rattle.std.proofs.lemmas.Nat.{div-add-mod'}
use lib.IntN.{*ℤ_comm}
use Rattle.base_integers.specs.Gcd.{gcd_within, nat_gcd, gcd, IsGcdOf, IsSumOfMultiples}
use Rattle.base_integers.specs.Divides.{Divides}
use Rattle.base_integers.proofs.Ring.{mul-add, add-mul, sub-mul, mul_assoc}
use Rattle.base_integers.proofs.Divisors.{Divides_from_dvd, dvd_from_Divides, Divides_from_size, signed}

gcd_within-more : (n a b : ℕ) (t : Bool) → nat_eq b 0 ≡ t → b ≤ suc n
    → ((c : ℕ) → c ≤ n → IsGcd b c (gcd_within n b c)) → IsGcd a b (cond t a (gcd_within n b (a % b)))
gcd_within-more n a b true e le below = IsGcd-from_zero a b (grind (arith, nat_tests))
gcd_within-more n a b false e le below =
    let some : 0 < b = grind (arith, nat_tests) in
    IsGcd-from_mod a b (gcd_within n b (a % b)) (below (a % b) (omega arith))

pub gcd_within-is : (n a b : ℕ) → b ≤ n → IsGcd a b (gcd_within n a b)
gcd_within-is zero a b le = IsGcd-from_zero a b (omega arith)
gcd_within-is (suc n) a b le = gcd_within-more n a b (nat_eq b 0) refl le (λ c h. gcd_within-is n b c h)

pub nat_gcd-is : (a b : ℕ) → IsGcd a b (nat_gcd a b)
unfolding nat_gcd
nat_gcd-is a b = gcd_within-is b a b (omega arith)

pub gcd-is : (a b : ℤ) → IsGcdOf a b (gcd a b)
unfolding gcd
gcd-is a b = record { not_negative = omega (arith, ints); greatest = nat_gcd-is (unsigned_abs a) (unsigned_abs b) }

-- it is the only one
pub gcd-only : (a b g : ℤ) → IsGcdOf a b g → g ≡ gcd a b
gcd-only a b g h =
    let same : unsigned_abs g ≡ unsigned_abs (gcd a b) =
    same_from_IsGcd (unsigned_abs a) (unsigned_abs b) (unsigned_abs g) (unsigned_abs (gcd a b)) h.greatest (gcd-is a b).greatest in
    let first : pos 0 ≤ℤ g = h.not_negative in
    let second : pos 0 ≤ℤ gcd a b = (gcd-is a b).not_negative in
    omega (arith, ints)

pub gcd-comm : (a b : ℤ) → gcd a b ≡ gcd b a
gcd-comm a b =
    let h = gcd-is a b in
    gcd-only b a (gcd a b) (record { not_negative = h.not_negative; greatest = IsGcd-swap _ _ _ h.greatest })

pub gcd-divides_left : (a b : ℤ) → Divides (gcd a b) a
unfolding gcd
gcd-divides_left a b = Divides_from_dvd (nat_gcd (unsigned_abs a) (unsigned_abs b)) a ((nat_gcd-is (unsigned_abs a) (unsigned_abs b)).0)

pub gcd-divides_right : (a b : ℤ) → Divides (gcd a b) b
unfolding gcd
gcd-divides_right a b = Divides_from_dvd (nat_gcd (unsigned_abs a) (unsigned_abs b)) b ((nat_gcd-is (unsigned_abs a) (unsigned_abs b)).1)

pub gcd-greatest : (a b d : ℤ) → Divides d a → Divides d b → Divides d (gcd a b)
unfolding gcd
gcd-greatest a b d h k =
    Divides_from_size d (gcd a b)
    (Divides_from_dvd (unsigned_abs d) (gcd a b)
    ((nat_gcd-is (unsigned_abs a) (unsigned_abs b)).2 (unsigned_abs d) (dvd_from_Divides d a h) (dvd_from_Divides d b k)))

pub gcd-zero : (a : ℤ) → gcd a (pos 0) ≡ pos (unsigned_abs a)
unfolding gcd nat_gcd
gcd-zero a = refl

-- 0 alone has a greatest common divisor of 0
pub gcd-positive : (a b : ℤ) → a ≢ pos 0 → pos 0 <ℤ gcd a b
gcd-positive a b n =
    let h = gcd-divides_left a b in
    let first : pos 0 ≤ℤ gcd a b = (gcd-is a b).not_negative in
    by_lt_z (pos 0) (gcd a b) (λ lt. lt)
    (λ le.
    let none : gcd a b ≡ pos 0 = omega (arith, ints) in
    absurd (n (h.is ∙ ap (λ (z : ℤ). h.quotient *ℤ z) none ∙ omega (arith, ints))))

-- ---- the greatest common divisor is a sum of multiples
sum_of_rest : (a b g : ℕ) → IsSumOfMultiples (pos b) (pos (a % b)) (pos g) → IsSumOfMultiples (pos a) (pos b) (pos g)
sum_of_rest a b g h =
    let parts : pos a ≡ (pos (a / b) *ℤ pos b) +ℤ pos (a % b) = omega (arith, ints, div-add-mod' a b) in
    record {
      p = h.q;
      q = h.p -ℤ (h.q *ℤ pos (a / b));
      is = h.is ∙ omega (
        arith,
        ints,
        ap (λ (z : ℤ). h.q *ℤ z) parts,
        mul-add h.q (pos (a / b) *ℤ pos b) (pos (a % b)),
        mul_assoc h.q (pos (a / b)) (pos b),
        sub-mul h.p (h.q *ℤ pos (a / b)) (pos b),
      );
    }

sum-more : (n a b : ℕ) (t : Bool) → nat_eq b 0 ≡ t → b ≤ suc n
    → ((c : ℕ) → c ≤ n → IsSumOfMultiples (pos b) (pos c) (pos (gcd_within n b c)))
    → IsSumOfMultiples (pos a) (pos b) (pos (cond t a (gcd_within n b (a % b))))
sum-more n a b true e le below = record { p = pos 1; q = pos 0; is = omega (arith, ints) }
sum-more n a b false e le below =
    let some : 0 < b = grind (arith, nat_tests) in
    sum_of_rest a b (gcd_within n b (a % b)) (below (a % b) (omega arith))

sum-within : (n a b : ℕ) → b ≤ n → IsSumOfMultiples (pos a) (pos b) (pos (gcd_within n a b))
sum-within zero a b le = record { p = pos 1; q = pos 0; is = omega (arith, ints) }
sum-within (suc n) a b le = sum-more n a b (nat_eq b 0) refl le (λ c h. sum-within n b c h)

pub gcd-sum : (a b : ℤ) → IsSumOfMultiples a b (gcd a b)
unfolding gcd nat_gcd
gcd-sum a b =
    let sizes = sum-within (unsigned_abs b) (unsigned_abs a) (unsigned_abs b) (omega arith) in
    let first = signed a in
    let second = signed b in
    record {
      p = sizes.p *ℤ first.sign;
      q = sizes.q *ℤ second.sign;
      is = sizes.is
          ∙ ap (λ (z : ℤ). z +ℤ (sizes.q *ℤ pos (unsigned_abs b))) (ap (λ (z : ℤ). sizes.p *ℤ z) first.is ∙ sym (mul_assoc sizes.p first.sign a))
          ∙ ap (λ (z : ℤ). ((sizes.p *ℤ first.sign) *ℤ a) +ℤ z) (ap (λ (z : ℤ). sizes.q *ℤ z) second.is ∙ sym (mul_assoc sizes.q second.sign b));
    }

-- what divides b·c and is coprime to b divides c
pub coprime-divides : (a b c : ℤ) → gcd a b ≡ pos 1 → Divides a (b *ℤ c) → Divides a c
coprime-divides a b c one h =
    let sum = gcd-sum a b in
    let is : pos 1 *ℤ c ≡ ((sum.p *ℤ a) +ℤ (sum.q *ℤ b)) *ℤ c = ap (λ (z : ℤ). z *ℤ c) (sym one ∙ sum.is) in
    record {
      quotient = (sum.p *ℤ c) +ℤ (sum.q *ℤ h.quotient);
      is = omega (
        arith,
        ints,
        is,
        add-mul (sum.p *ℤ a) (sum.q *ℤ b) c,
        mul_assoc sum.p a c,
        mul_assoc sum.q b c,
        ap (λ (z : ℤ). sum.q *ℤ z) h.is,
        mul_assoc sum.q h.quotient a,
        mul_assoc sum.p c a,
        ap (λ (z : ℤ). sum.p *ℤ z) (*ℤ_comm a c),
        add-mul (sum.p *ℤ c) (sum.q *ℤ h.quotient) a,
      );
    }
