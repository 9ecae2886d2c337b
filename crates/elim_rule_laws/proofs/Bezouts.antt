-- The coefficients of Bézout: g = p·a + q·b, where g is the greatest common divisor of a and b.
use Rattle.std.proofs.Common.{◌≡◌, ◌<◌, ◌≤◌, ◌/◌, ◌%◌, ℕ, zero, suc, ℤ, pos, ◌+ℤ◌, ◌-ℤ◌, ◌*ℤ◌, ◌≤ℤ◌, ◌<ℤ◌, unsigned_abs, Bool, true, false, cond, nat_eq, refl, sym, ◌∙◌, ap, subst, arith}
use Rattle.std.specs.Int.{int_div_euclid, int_rem_euclid}
use Rattle.std.proofs.lemmas.Int.{ints}
use Rattle.std.proofs.lemmas.Nat.{div-add-mod'}
use Rattle.std.proofs.lemmas.Bool.Decides.{nat_tests}
use Rattle.base_integers.specs.Divides.{Divides, IsCongruent}
use Rattle.base_integers.proofs.Divisors.{congruent-refl}
use Rattle.elim_rule_laws.proofs.Dividing.{cofactors-one}
use Rattle.base_integers.specs.Gcd.{gcd, nat_gcd, gcd_within}
use Rattle.base_integers.proofs.Ring.{add-mul, mul-add, sub-mul, mul_assoc, left_comm}
use Rattle.base_integers.proofs.Order.{mul_cancel, mul_lt_right, lt_of_mul_lt}
use Rattle.base_integers.proofs.Divisor.{gcd-divides_left, gcd-divides_right, gcd-positive}
use Rattle.base_integers.proofs.Floors.{floor-exact}
use Rattle.base_integers.proofs.Residues.{rem-parts, rem-bounds, residue-only}
use Rattle.clause_set.specs.Bezout.{cofactors_within, Bezout, with_least, bezout}
use Rattle.clause_set.proofs.NormalTruth.{size_positive}
use Rattle.elim_rule_laws.specs.Divisions.{IsBezout}

rest-sum : (a b : ℕ) (g p q : ℤ) → g ≡ (p *ℤ pos b) +ℤ (q *ℤ pos (a % b)) → g ≡ (q *ℤ pos a) +ℤ ((p -ℤ (q *ℤ pos (a / b))) *ℤ pos b)
rest-sum a b g p q e =
    let parts : pos a ≡ (pos (a / b) *ℤ pos b) +ℤ pos (a % b) = omega (arith, ints, div-add-mod' a b) in
    e ∙ omega (arith, ints, ap (λ z. q *ℤ z) parts, mul-add q (pos (a / b) *ℤ pos b) (pos (a % b)), mul_assoc q (pos (a / b)) (pos b), sub-mul p (q *ℤ pos (a / b)) (pos b))

-- g is the sum of multiples of a and b that the cofactors z make
abbrev IsSum : ℕ → ℕ → ℕ → (ℤ × ℤ) → Type 0
IsSum a b g z = pos g ≡ (z.0 *ℤ pos a) +ℤ (z.1 *ℤ pos b)

sum-more : (n a b : ℕ) (t : Bool) → nat_eq b 0 ≡ t → b ≤ suc n → ((c : ℕ) → c ≤ n → IsSum b c (gcd_within n b c) (cofactors_within n b c))
    → IsSum a b (cond t a (gcd_within n b (a % b)))
    (cond t (pos 1, pos 0) (let r = cofactors_within n b (a % b) in (r.1, r.0 -ℤ (r.1 *ℤ pos (a / b)))))
sum-more n a b true e le below = omega (arith, ints)
sum-more n a b false e le below =
    let some : 0 < b = grind (arith, nat_tests) in
    let r : ℤ × ℤ = cofactors_within n b (a % b) in
    rest-sum a b (pos (gcd_within n b (a % b))) (cofactors_within n b (a % b)).0 (cofactors_within n b (a % b)).1 (below (a % b) (omega arith))

sum-within : (n a b : ℕ) → b ≤ n → IsSum a b (gcd_within n a b) (cofactors_within n a b)
sum-within zero a b le = omega (arith, ints)
sum-within (suc n) a b le = sum-more n a b (nat_eq b 0) refl le (λ c h. sum-within n b c h)

-- p brought below b/g: then q is exact
least-q : (a b g p q α β k : ℤ) → pos 0 <ℤ b → g ≡ (p *ℤ a) +ℤ (q *ℤ b) → a ≡ α *ℤ g → b ≡ β *ℤ g
    → g -ℤ ((p -ℤ (k *ℤ β)) *ℤ a) ≡ (q +ℤ (k *ℤ α)) *ℤ b
least-q a b g p q α β k h sum ae be =
    let cross : β *ℤ a ≡ α *ℤ b = ap (λ z. β *ℤ z) ae ∙ left_comm β α g ∙ ap (λ z. α *ℤ z) (sym be) in
    omega (arith, ints, sum, sub-mul p (k *ℤ β) a, add-mul q (k *ℤ α) b, mul_assoc k β a, mul_assoc k α b, ap (λ z. k *ℤ z) cross)

with_least-is : (a b g p q : ℤ) → pos 0 <ℤ b → pos 0 <ℤ g → g ≡ (p *ℤ a) +ℤ (q *ℤ b) → g ≡ gcd a b → Divides g a → Divides g b → IsBezout a b (with_least a b g p)
with_least-is a b g p q bp gp sum is da db =
    let β : ℤ = int_div_euclid b g in
    let β_is : β ≡ db.quotient = ap (λ z. int_div_euclid z g) db.is ∙ floor-exact db.quotient g gp in
    let be : b ≡ β *ℤ g = db.is ∙ ap (λ z. z *ℤ g) (sym β_is) in
    let βp : pos 0 <ℤ β = lt_of_mul_lt (pos 0) β g (omega (arith, ints)) (omega (arith, ints, be)) in
    let k : ℤ = int_div_euclid p β in
    let parts : p ≡ (k *ℤ β) +ℤ int_rem_euclid p β = rem-parts p β βp in
    let bounds : (pos 0 ≤ℤ int_rem_euclid p β) × (int_rem_euclid p β <ℤ β) = rem-bounds p β βp in
    let least_is : int_rem_euclid p β ≡ p -ℤ (k *ℤ β) = omega (arith, ints, parts) in
    let exact : g -ℤ (int_rem_euclid p β *ℤ a) ≡ (q +ℤ (k *ℤ da.quotient)) *ℤ b =
    ap (λ z. g -ℤ (z *ℤ a)) least_is ∙ least-q a b g p q da.quotient β k bp sum da.is be in
    let q_is : int_div_euclid (g -ℤ (int_rem_euclid p β *ℤ a)) b ≡ q +ℤ (k *ℤ da.quotient) = ap (λ z. int_div_euclid z b) exact ∙ floor-exact (q +ℤ (k *ℤ da.quotient)) b bp in
    record {
      divisor = is;
      sum = omega (arith, ints, exact, ap (λ z. z *ℤ b) q_is);
      not_negative = bounds.0;
      least = omega (arith, ints, be, mul_lt_right (int_rem_euclid p β) β g gp bounds.1);
    }

pub bezout-is : (a b : ℤ) → pos 0 <ℤ a → pos 0 <ℤ b → IsBezout a b (bezout a b)
unfolding bezout gcd nat_gcd
bezout-is a b hp bp =
    let n : ℕ = unsigned_abs b in
    let sizes : IsSum (unsigned_abs a) n (gcd_within n (unsigned_abs a) n) (cofactors_within n (unsigned_abs a) n) = sum-within n (unsigned_abs a) n (omega arith) in
    let z : ℤ × ℤ = cofactors_within n (unsigned_abs a) n in
    let sum : gcd a b ≡ (z.0 *ℤ a) +ℤ (z.1 *ℤ b) =
    sizes ∙ omega (arith, ints, ap_times z.0 (size_positive a hp), ap_times z.1 (size_positive b bp)) in
    with_least-is a b (gcd a b) z.0 z.1 bp (gcd-positive a b (λ e. absurd (omega (arith, ints, e)))) sum refl (gcd-divides_left a b) (gcd-divides_right a b)
  where
    ap_times : (k : ℤ) {x y : ℤ} → x ≡ y → k *ℤ x ≡ k *ℤ y
    ap_times k e = ap (λ z. k *ℤ z) e

-- ---- it is the only one
-- the first cofactors of g differ by a multiple of β = b/g
cofactors-differ : (a b g p q r s α β : ℤ) → pos 0 <ℤ g → g ≡ (p *ℤ a) +ℤ (q *ℤ b) → g ≡ (r *ℤ a) +ℤ (s *ℤ b) → a ≡ α *ℤ g → b ≡ β *ℤ g → Divides β (p -ℤ r)
cofactors-differ a b g p q r s α β gp first second ae be = record {
  quotient = (p *ℤ (s -ℤ q)) +ℤ ((p -ℤ r) *ℤ q);
  is =
      let one : (p *ℤ α) +ℤ (q *ℤ β) ≡ pos 1 = cofactors-one g p q a b α β gp first ae be in
      let two : (r *ℤ α) +ℤ (s *ℤ β) ≡ pos 1 = cofactors-one g r s a b α β gp second ae be in
      let cross : (p -ℤ r) *ℤ α ≡ (s -ℤ q) *ℤ β = omega (arith, ints, one, two, sub-mul p r α, sub-mul s q β) in
      let whole : (p -ℤ r) *ℤ ((p *ℤ α) +ℤ (q *ℤ β)) ≡ p -ℤ r = ap (λ z. (p -ℤ r) *ℤ z) one ∙ omega (arith, ints) in
      omega (
        arith,
        ints,
        whole,
        mul-add (p -ℤ r) (p *ℤ α) (q *ℤ β),
        left_comm (p -ℤ r) p α,
        ap (λ z. p *ℤ z) cross,
        sym (mul_assoc p (s -ℤ q) β),
        sym (mul_assoc (p -ℤ r) q β),
        add-mul (p *ℤ (s -ℤ q)) ((p -ℤ r) *ℤ q) β,
      );
}

pub bezout_same : (a b : ℤ) (z w : Bezout) → pos 0 <ℤ a → pos 0 <ℤ b → IsBezout a b z → IsBezout a b w → z ≡ w
bezout_same a b z w hp bp h k =
    let g : ℤ = gcd a b in
    let gp : pos 0 <ℤ g = gcd-positive a b (λ e. absurd (omega (arith, ints, e))) in
    let da : Divides g a = gcd-divides_left a b in
    let db : Divides g b = gcd-divides_right a b in
    let β : ℤ = db.quotient in
    let first : g ≡ (z.p *ℤ a) +ℤ (z.q *ℤ b) = sym h.divisor ∙ h.sum in
    let second : g ≡ (w.p *ℤ a) +ℤ (w.q *ℤ b) = sym k.divisor ∙ k.sum in
    let small : (y : Bezout) → IsBezout a b y → y.p <ℤ β = (λ y i.
    let le : (y.p *ℤ g) <ℤ b = subst (λ n. (y.p *ℤ n) <ℤ b) i.divisor i.least in
    lt_of_mul_lt y.p β g (omega (arith, ints)) (omega (arith, ints, le, db.is))) in
    let positive : pos 0 <ℤ β = lt_of_mul_lt (pos 0) β g (omega (arith, ints)) (omega (arith, ints, db.is)) in
    let differ : IsCongruent β w.p z.p = cofactors-differ a b g w.p w.q z.p z.q da.quotient β gp second first da.is db.is in
    let p_same : z.p ≡ w.p = residue-only β w.p z.p w.p positive
    (record { not_negative = h.not_negative; below = small z h; congruent = differ })
    (record { not_negative = k.not_negative; below = small w k; congruent = congruent-refl β w.p }) in
    let q_same : z.q ≡ w.q = mul_cancel z.q w.q b bp (omega (arith, ints, first, second, ap (λ n. n *ℤ a) p_same)) in
    let g_same : z.g ≡ w.g = h.divisor ∙ sym k.divisor in
    (λ i. record { g = g_same i; p = p_same i; q = q_same i })

pub bezout-only : (a b : ℤ) (z : Bezout) → pos 0 <ℤ a → pos 0 <ℤ b → IsBezout a b z → z ≡ bezout a b
bezout-only a b z hp bp h = bezout_same a b z (bezout a b) hp bp h (bezout-is a b hp bp)
