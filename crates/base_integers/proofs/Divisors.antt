-- Divisibility of integers: sums, multiples, chains, and the test.
use Rattle.std.proofs.Common.{◌≡◌, ◌*◌, ◌+◌, ◌<◌, ◌%◌, ◌/◌, ℕ, suc, ℤ, pos, negsuc, ◌+ℤ◌, ◌-ℤ◌, ◌*ℤ◌, neg_ℤ, ◌<ℤ◌, Bool, true, false, sym, ◌∙◌, ap, subst, refl, arith}
use Rattle.std.specs.Prelude.{unsigned_abs}
use Rattle.std.proofs.lemmas.Int.{ints, unsigned_abs-mul}
use Rattle.std.proofs.lemmas.Bool.Decides.{nat_tests}
use Rattle.std.proofs.lemmas.Nat.Gcd.{mod-eq-zero_of_dvd}
use Rattle.std.proofs.Math.Nat.{dvd-mul_left, div-add-mod'}
use Prim.Native.Nat.{◌∣◌}
use Rattle.base_integers.specs.Divides.{Divides, divides, IsCongruent}
use Rattle.base_integers.proofs.Order.{mul_cancel}
use Rattle.base_integers.proofs.Ring.{add-mul, mul-sub, mul_assoc, neg-mul}

pub Divides-sum : (d a b : ℤ) → Divides d a → Divides d b → Divides d (a +ℤ b)
Divides-sum d a b h k = record {
  quotient = h.quotient +ℤ k.quotient;
  is = ap (λ (z : ℤ). z +ℤ b) h.is ∙ ap (λ (z : ℤ). (h.quotient *ℤ d) +ℤ z) k.is ∙ sym (add-mul h.quotient k.quotient d);
}

pub Divides-multiple : (d m a : ℤ) → Divides d a → Divides d (m *ℤ a)
Divides-multiple d m a h = record {
  quotient = m *ℤ h.quotient;
  is = ap (λ (z : ℤ). m *ℤ z) h.is ∙ sym (mul_assoc m h.quotient d);
}

pub Divides-neg : (d a : ℤ) → Divides d a → Divides d (neg_ℤ a)
Divides-neg d a h = record { quotient = neg_ℤ h.quotient; is = ap neg_ℤ h.is ∙ sym (neg-mul h.quotient d) }

pub Divides-difference : (d a b : ℤ) → Divides d a → Divides d b → Divides d (a -ℤ b)
Divides-difference d a b h k = Divides-sum d a (neg_ℤ b) h (Divides-neg d b k)

pub Divides-refl : (d : ℤ) → Divides d d
Divides-refl d = record { quotient = pos 1; is = omega (arith, ints) }

pub Divides-zero : (d : ℤ) → Divides d (pos 0)
Divides-zero d = record { quotient = pos 0; is = omega (arith, ints) }

pub Divides-trans : (c d z : ℤ) → Divides c d → Divides d z → Divides c z
Divides-trans c d z h k = record {
  quotient = k.quotient *ℤ h.quotient;
  is = k.is ∙ ap (λ (y : ℤ). k.quotient *ℤ y) h.is ∙ sym (mul_assoc k.quotient h.quotient c);
}

-- a product by m is divided by d·m exactly where the other factor is divided by d
pub Divides-product : (d a m : ℤ) → Divides d a → Divides (d *ℤ m) (a *ℤ m)
Divides-product d a m h = record { quotient = h.quotient; is = ap (λ (z : ℤ). z *ℤ m) h.is ∙ mul_assoc h.quotient d m }

pub Divides_from_rem : (d : ℕ) (z : ℤ) → unsigned_abs z % d ≡ 0 → Divides (pos d) z
Divides_from_rem d (pos n) e =
    let is : n / d * d + n % d ≡ n = div-add-mod' n d in
    record { quotient = pos (n / d); is = omega (arith, ints) }
Divides_from_rem d (negsuc n) e =
    let is : suc n / d * d + suc n % d ≡ suc n = div-add-mod' (suc n) d in
    record { quotient = neg_ℤ (pos (suc n / d)); is = omega (arith, ints, neg-mul (pos (suc n / d)) (pos d)) }

pub Divides_from_dvd : (d : ℕ) (z : ℤ) → d ∣ unsigned_abs z → Divides (pos d) z
Divides_from_dvd d z h = Divides_from_rem d z (mod-eq-zero_of_dvd d h)

pub dvd_from_Divides : (d z : ℤ) → Divides d z → unsigned_abs d ∣ unsigned_abs z
dvd_from_Divides d z h =
    subst (λ (n : ℕ). unsigned_abs d ∣ n) (sym (ap unsigned_abs h.is ∙ unsigned_abs-mul h.quotient d))
    (dvd-mul_left (unsigned_abs d) (unsigned_abs h.quotient))

pub Divides_from_test : (d : ℕ) (z : ℤ) → divides d z ≡ true → Divides (pos d) z
Divides_from_test d z h = Divides_from_rem d z (grind (arith, nat_tests))

pub test_from_Divides : (d : ℕ) (z : ℤ) → Divides (pos d) z → divides d z ≡ true
test_from_Divides d z h =
    let e : unsigned_abs z % d ≡ 0 = mod-eq-zero_of_dvd d (dvd_from_Divides (pos d) z h) in
    grind (arith, nat_tests)

-- ---- sizes
-- the size of z is z or -z: a multiple of z
pub record Signed (z : ℤ) : Type 0 where
  pub sign : ℤ
  pub is : pos (unsigned_abs z) ≡ sign *ℤ z

pub signed : (z : ℤ) → Signed z
signed (pos n) = record { sign = pos 1; is = omega (arith, ints) }
signed (negsuc n) = record { sign = negsuc 0; is = omega (arith, ints) }

pub Divides_from_size : (d z : ℤ) → Divides (pos (unsigned_abs d)) z → Divides d z
Divides_from_size d z h =
    let size = signed d in
    record {
      quotient = h.quotient *ℤ size.sign;
      is = h.is ∙ ap (λ (y : ℤ). h.quotient *ℤ y) size.is ∙ sym (mul_assoc h.quotient size.sign d);
    }

-- ---- congruence
pub congruent-refl : (d a : ℤ) → IsCongruent d a a
congruent-refl d a = record { quotient = pos 0; is = omega (arith, ints) }

pub congruent-sym : (d a b : ℤ) → IsCongruent d a b → IsCongruent d b a
congruent-sym d a b h = record { quotient = neg_ℤ h.quotient; is = omega (arith, ints, h.is, neg-mul h.quotient d) }

pub congruent-trans : (d a b c : ℤ) → IsCongruent d a b → IsCongruent d b c → IsCongruent d a c
congruent-trans d a b c h k = record {
  quotient = h.quotient +ℤ k.quotient;
  is = omega (arith, ints, h.is, k.is, add-mul h.quotient k.quotient d);
}

pub congruent-sum : (d a b x y : ℤ) → IsCongruent d a b → IsCongruent d x y → IsCongruent d (a +ℤ x) (b +ℤ y)
congruent-sum d a b x y h k = record {
  quotient = h.quotient +ℤ k.quotient;
  is = omega (arith, ints, h.is, k.is, add-mul h.quotient k.quotient d);
}

pub congruent-multiple : (d m a b : ℤ) → IsCongruent d a b → IsCongruent d (m *ℤ a) (m *ℤ b)
congruent-multiple d m a b h = record {
  quotient = m *ℤ h.quotient;
  is = sym (mul-sub m a b) ∙ ap (λ (z : ℤ). m *ℤ z) h.is ∙ sym (mul_assoc m h.quotient d);
}

-- d divides a exactly where it divides what is congruent to a
pub congruent-divides : (d a b : ℤ) → IsCongruent d a b → Divides d b → Divides d a
congruent-divides d a b h k = record {
  quotient = h.quotient +ℤ k.quotient;
  is = omega (arith, ints, h.is, k.is, add-mul h.quotient k.quotient d);
}

-- ---- the test at numbers that are divided by the same
same_tests : (s t : Bool) → (s ≡ true → t ≡ true) → (t ≡ true → s ≡ true) → s ≡ t
same_tests true t f g = sym (f refl)
same_tests false true f g = g refl
same_tests false false f g = refl

pub divides-congruent : (d : ℕ) (a b : ℤ) → IsCongruent (pos d) a b → divides d a ≡ divides d b
divides-congruent d a b h =
    same_tests (divides d a) (divides d b)
    (λ e. test_from_Divides d b (congruent-divides (pos d) b a (congruent-sym (pos d) a b h) (Divides_from_test d a e)))
    (λ e. test_from_Divides d a (congruent-divides (pos d) a b h (Divides_from_test d b e)))

Divides-product_back : (d a m : ℤ) → pos 0 <ℤ m → Divides (d *ℤ m) (a *ℤ m) → Divides d a
Divides-product_back d a m some h = record {
  quotient = h.quotient;
  is = mul_cancel a (h.quotient *ℤ d) m some (h.is ∙ sym (mul_assoc h.quotient d m));
}

pub divides-product : (d m : ℕ) (a : ℤ) → 0 < m → divides (d * m) (a *ℤ pos m) ≡ divides d a
divides-product d m a some =
    same_tests (divides (d * m) (a *ℤ pos m)) (divides d a)
    (λ e. test_from_Divides d a (Divides-product_back (pos d) a (pos m) (omega (arith, ints)) (Divides_from_test (d * m) (a *ℤ pos m) e)))
    (λ e. test_from_Divides (d * m) (a *ℤ pos m) (Divides-product (pos d) a (pos m) (Divides_from_test d a e)))
