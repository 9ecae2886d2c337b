-- Divisibilities of a·x + t: remainders, two that become one, and solutions by a congruence.
use Rattle.std.proofs.Common.{◌≡◌, ◌<◌, ℕ, ℤ, pos, neg_ℤ, ◌+ℤ◌, ◌-ℤ◌, ◌*ℤ◌, ◌≤ℤ◌, ◌<ℤ◌, unsigned_abs, Bool, true, false, refl, sym, ◌∙◌, ap, subst, arith}
use Rattle.std.specs.Int.{int_div_euclid, int_rem_euclid}
use Rattle.std.proofs.lemmas.Int.{ints, by_lt_z}
use lib.IntN.{*ℤ_comm}
use Rattle.base_integers.specs.Divides.{Divides, divides}
use Rattle.base_integers.proofs.Ring.{add-mul, mul-add, mul-sub, sub-mul, mul_assoc, mul-neg, left_comm}
use Rattle.base_integers.proofs.Order.{mul_cancel, mul_le_right}
use Rattle.base_integers.proofs.Divisors.{Divides-trans, Divides-sum, Divides-difference, Divides-multiple, Divides-product, Divides_from_test, test_from_Divides}
use Rattle.base_integers.proofs.Residues.{rem-parts, rem-bounds}
use Rattle.elim_rule_laws.specs.Divisions.{HasRemainder}

-- ---- d does not divide t exactly where it divides t + r for some r from 1 to d − 1
pub remainder-of : (d : ℕ) (t : ℤ) → 0 < d → divides d t ≡ false → HasRemainder d t
remainder-of d t some fails =
    let dp : pos 0 <ℤ pos d = omega (arith, ints) in
    let m : ℤ = int_rem_euclid t (pos d) in
    let parts : t ≡ (int_div_euclid t (pos d) *ℤ pos d) +ℤ m = rem-parts t (pos d) dp in
    let bounds : (pos 0 ≤ℤ m) × (m <ℤ pos d) = rem-bounds t (pos d) dp in
    by_lt_z (pos 0) m
    (λ positive.
    let r : ℕ = unsigned_abs (pos d -ℤ m) in
    let r_is : pos r ≡ pos d -ℤ m = omega (arith, ints) in (
      r,
      omega (arith, ints),
      omega (arith, ints),
      test_from_Divides d (t +ℤ pos r) (record {
        quotient = int_div_euclid t (pos d) +ℤ pos 1;
        is = omega (arith, ints, parts, r_is, add-mul (int_div_euclid t (pos d)) (pos 1) (pos d));
      }),
    ))
    (λ none.
    let yes : divides d t ≡ true = test_from_Divides d t (record { quotient = int_div_euclid t (pos d); is = omega (arith, ints, parts) }) in
    absurd (cc))

small_multiple : (r d : ℕ) (k : ℤ) → 0 < r → r < d → pos r ≡ k *ℤ pos d → ⊥
small_multiple r d k some lt e =
    by_lt_z (pos 0) k
    (λ positive. let le : (pos 1 *ℤ pos d) ≤ℤ (k *ℤ pos d) = mul_le_right (pos 1) k (pos d) (omega (arith, ints)) (omega (arith, ints)) in omega (arith, ints, e, le))
    (λ negative. let le : (k *ℤ pos d) ≤ℤ (pos 0 *ℤ pos d) = mul_le_right k (pos 0) (pos d) (omega (arith, ints)) negative in omega (arith, ints, e, le))

pub remainder-excludes : (d : ℕ) (t : ℤ) → HasRemainder d t → divides d t ≡ false
remainder-excludes d t h = by (divides d t) refl
  where
    by : (b : Bool) → divides d t ≡ b → b ≡ false
    by false e = refl
    by true e =
        let both = Divides-difference (pos d) (t +ℤ pos h.0) t (Divides_from_test d (t +ℤ pos h.0) h.3) (Divides_from_test d t e) in
        let is : pos h.0 ≡ both.quotient *ℤ pos d = omega (arith, ints, both.is) in
        absurd (small_multiple h.0 d both.quotient h.1 h.2 is)

-- ---- two divisibilities: with g = p·a1·d2 + q·a2·d1, which divides a1·d2 and a2·d1, d1 divides z1 = a1·x + t1 and d2
-- divides z2 = a2·x + t2 exactly where d1·d2 divides p·d2·z1 + q·d1·z2 and g divides a2·z1 − a1·z2
pub merged-product : (d1 d2 z1 z2 p q : ℤ) → Divides d1 z1 → Divides d2 z2 → Divides (d1 *ℤ d2) ((p *ℤ (d2 *ℤ z1)) +ℤ (q *ℤ (d1 *ℤ z2)))
merged-product d1 d2 z1 z2 p q h k =
    let first : Divides (d1 *ℤ d2) (d2 *ℤ z1) = subst (Divides (d1 *ℤ d2)) (*ℤ_comm z1 d2) (Divides-product d1 z1 d2 h) in
    let second : Divides (d1 *ℤ d2) (d1 *ℤ z2) = subst (λ m. Divides m (d1 *ℤ z2)) (*ℤ_comm d2 d1) (subst (Divides (d2 *ℤ d1)) (*ℤ_comm z2 d1) (Divides-product d2 z2 d1 k)) in
    Divides-sum (d1 *ℤ d2) (p *ℤ (d2 *ℤ z1)) (q *ℤ (d1 *ℤ z2)) (Divides-multiple (d1 *ℤ d2) p (d2 *ℤ z1) first) (Divides-multiple (d1 *ℤ d2) q (d1 *ℤ z2) second)

-- g divides a·z where it divides a·d and d divides z
divides-through : (g a d z : ℤ) → Divides g (a *ℤ d) → Divides d z → Divides g (a *ℤ z)
divides-through g a d z h k =
    subst (Divides g) (sym (ap (λ m. a *ℤ m) k.is ∙ left_comm a k.quotient d)) (Divides-multiple g k.quotient (a *ℤ d) h)

pub merged-difference : (d1 d2 z1 z2 a1 a2 g : ℤ) → Divides g (a1 *ℤ d2) → Divides g (a2 *ℤ d1) → Divides d1 z1 → Divides d2 z2 → Divides g ((a2 *ℤ z1) -ℤ (a1 *ℤ z2))
merged-difference d1 d2 z1 z2 a1 a2 g first second h k =
    Divides-difference g (a2 *ℤ z1) (a1 *ℤ z2) (divides-through g a2 d1 z1 second h) (divides-through g a1 d2 z2 first k)

-- the cofactors of numbers divided by their greatest common divisor have the sum 1
pub cofactors-one : (g p q a b α β : ℤ) → pos 0 <ℤ g → g ≡ (p *ℤ a) +ℤ (q *ℤ b) → a ≡ α *ℤ g → b ≡ β *ℤ g → (p *ℤ α) +ℤ (q *ℤ β) ≡ pos 1
cofactors-one g p q a b α β gp sum ae be =
    let times : ((p *ℤ α) +ℤ (q *ℤ β)) *ℤ g ≡ g =
    omega (arith, ints, sum, add-mul (p *ℤ α) (q *ℤ β) g, mul_assoc p α g, mul_assoc q β g, ap (λ z. p *ℤ z) ae, ap (λ z. q *ℤ z) be) in
    mul_cancel ((p *ℤ α) +ℤ (q *ℤ β)) (pos 1) g gp (omega (arith, ints, times))

combined-first : (p q α β P Q : ℤ) → (p *ℤ α) +ℤ (q *ℤ β) ≡ pos 1
    → (α *ℤ ((p *ℤ P) +ℤ (q *ℤ Q))) +ℤ (q *ℤ ((β *ℤ P) -ℤ (α *ℤ Q))) ≡ P
combined-first p q α β P Q one =
    let whole : ((p *ℤ α) +ℤ (q *ℤ β)) *ℤ P ≡ P = ap (λ z. z *ℤ P) one ∙ omega (arith, ints) in
    omega (arith, ints, whole, add-mul (p *ℤ α) (q *ℤ β) P, mul_assoc p α P, mul_assoc q β P, left_comm p α P, mul-add α (p *ℤ P) (q *ℤ Q), mul-sub q (β *ℤ P) (α *ℤ Q), left_comm α q Q)

combined-second : (p q α β P Q : ℤ) → (p *ℤ α) +ℤ (q *ℤ β) ≡ pos 1
    → (β *ℤ ((p *ℤ P) +ℤ (q *ℤ Q))) -ℤ (p *ℤ ((β *ℤ P) -ℤ (α *ℤ Q))) ≡ Q
combined-second p q α β P Q one =
    let whole : ((p *ℤ α) +ℤ (q *ℤ β)) *ℤ Q ≡ Q = ap (λ z. z *ℤ Q) one ∙ omega (arith, ints) in
    omega (arith, ints, whole, add-mul (p *ℤ α) (q *ℤ β) Q, mul_assoc p α Q, mul_assoc q β Q, mul-add β (p *ℤ P) (q *ℤ Q), mul-sub p (β *ℤ P) (α *ℤ Q), left_comm β q Q, left_comm β p P)

-- d1·d2 divides β·d2·z1 − α·d1·z2
merged-cross : (d1 d2 z1 z2 a1 a2 g α β : ℤ) → pos 0 <ℤ g → a1 *ℤ d2 ≡ α *ℤ g → a2 *ℤ d1 ≡ β *ℤ g → Divides g ((a2 *ℤ z1) -ℤ (a1 *ℤ z2))
    → Divides (d1 *ℤ d2) ((β *ℤ (d2 *ℤ z1)) -ℤ (α *ℤ (d1 *ℤ z2)))
merged-cross d1 d2 z1 z2 a1 a2 g α β gp ae be v = record {
  quotient = v.quotient;
  is =
      let k : ℤ = v.quotient in
      let left : (β *ℤ (d2 *ℤ z1)) *ℤ g ≡ (d1 *ℤ d2) *ℤ (a2 *ℤ z1) =
      *ℤ_comm (β *ℤ (d2 *ℤ z1)) g ∙ sym (mul_assoc g β (d2 *ℤ z1)) ∙ ap (λ z. z *ℤ (d2 *ℤ z1)) (*ℤ_comm g β ∙ sym be)
      ∙ ap (λ z. z *ℤ (d2 *ℤ z1)) (*ℤ_comm a2 d1) ∙ mul_assoc d1 a2 (d2 *ℤ z1) ∙ ap (λ z. d1 *ℤ z) (left_comm a2 d2 z1) ∙ sym (mul_assoc d1 d2 (a2 *ℤ z1)) in
      let right : (α *ℤ (d1 *ℤ z2)) *ℤ g ≡ (d1 *ℤ d2) *ℤ (a1 *ℤ z2) =
      *ℤ_comm (α *ℤ (d1 *ℤ z2)) g ∙ sym (mul_assoc g α (d1 *ℤ z2)) ∙ ap (λ z. z *ℤ (d1 *ℤ z2)) (*ℤ_comm g α ∙ sym ae)
      ∙ ap (λ z. z *ℤ (d1 *ℤ z2)) (*ℤ_comm a1 d2) ∙ mul_assoc d2 a1 (d1 *ℤ z2) ∙ ap (λ z. d2 *ℤ z) (left_comm a1 d1 z2) ∙ sym (mul_assoc d2 d1 (a1 *ℤ z2)) ∙ ap (λ z. z *ℤ (a1 *ℤ z2)) (*ℤ_comm d2 d1) in
      let whole : (d1 *ℤ d2) *ℤ ((a2 *ℤ z1) -ℤ (a1 *ℤ z2)) ≡ (k *ℤ (d1 *ℤ d2)) *ℤ g =
      ap (λ z. (d1 *ℤ d2) *ℤ z) v.is ∙ left_comm (d1 *ℤ d2) k g ∙ sym (mul_assoc k (d1 *ℤ d2) g) in
      mul_cancel ((β *ℤ (d2 *ℤ z1)) -ℤ (α *ℤ (d1 *ℤ z2))) (k *ℤ (d1 *ℤ d2)) g gp
      (omega (arith, ints, left, right, whole, mul-sub (d1 *ℤ d2) (a2 *ℤ z1) (a1 *ℤ z2), sub-mul (β *ℤ (d2 *ℤ z1)) (α *ℤ (d1 *ℤ z2)) g));
}

-- m·d divides m·z exactly where d divides z
divides-cancel : (d m z : ℤ) → pos 0 <ℤ m → Divides (d *ℤ m) (m *ℤ z) → Divides d z
divides-cancel d m z mp h = record {
  quotient = h.quotient;
  is = mul_cancel z (h.quotient *ℤ d) m mp (*ℤ_comm z m ∙ h.is ∙ sym (mul_assoc h.quotient d m));
}

pub merged-back : (d1 d2 z1 z2 a1 a2 g p q : ℤ) → pos 0 <ℤ d1 → pos 0 <ℤ d2 → pos 0 <ℤ g → g ≡ (p *ℤ (a1 *ℤ d2)) +ℤ (q *ℤ (a2 *ℤ d1))
    → Divides g (a1 *ℤ d2) → Divides g (a2 *ℤ d1)
    → Divides (d1 *ℤ d2) ((p *ℤ (d2 *ℤ z1)) +ℤ (q *ℤ (d1 *ℤ z2))) → Divides g ((a2 *ℤ z1) -ℤ (a1 *ℤ z2))
    → Divides d1 z1 × Divides d2 z2
merged-back d1 d2 z1 z2 a1 a2 g p q dp ep gp sum first second w v =
    let α : ℤ = first.quotient in
    let β : ℤ = second.quotient in
    let m : ℤ = d1 *ℤ d2 in
    let P : ℤ = d2 *ℤ z1 in
    let Q : ℤ = d1 *ℤ z2 in
    let one : (p *ℤ α) +ℤ (q *ℤ β) ≡ pos 1 = cofactors-one g p q (a1 *ℤ d2) (a2 *ℤ d1) α β gp sum first.is second.is in
    let cross : Divides m ((β *ℤ P) -ℤ (α *ℤ Q)) = merged-cross d1 d2 z1 z2 a1 a2 g α β gp first.is second.is v in
    let left : Divides m P = subst (Divides m) (combined-first p q α β P Q one)
    (Divides-sum m (α *ℤ ((p *ℤ P) +ℤ (q *ℤ Q))) (q *ℤ ((β *ℤ P) -ℤ (α *ℤ Q))) (Divides-multiple m α ((p *ℤ P) +ℤ (q *ℤ Q)) w) (Divides-multiple m q ((β *ℤ P) -ℤ (α *ℤ Q)) cross)) in
    let right : Divides m Q = subst (Divides m) (combined-second p q α β P Q one)
    (Divides-difference m (β *ℤ ((p *ℤ P) +ℤ (q *ℤ Q))) (p *ℤ ((β *ℤ P) -ℤ (α *ℤ Q))) (Divides-multiple m β ((p *ℤ P) +ℤ (q *ℤ Q)) w) (Divides-multiple m p ((β *ℤ P) -ℤ (α *ℤ Q)) cross)) in
    (divides-cancel d1 d2 z1 ep left, divides-cancel d2 d1 z2 dp (subst (λ n. Divides n Q) (*ℤ_comm d1 d2) right))

-- ---- D divides b·x + t, with g = u·b + w·D: exactly where g divides t and x is −u·t/g + (D/g)·k for some k
-- g divides t
pub solvable-common : (d b t v g : ℤ) → Divides g b → Divides g d → Divides d ((b *ℤ v) +ℤ t) → Divides g t
solvable-common d b t v g hb hd h =
    let through : Divides g ((b *ℤ v) +ℤ t) = Divides-trans g d ((b *ℤ v) +ℤ t) hd h in
    let multiple : Divides g (b *ℤ v) = subst (Divides g) (*ℤ_comm v b) (Divides-multiple g v b hb) in
    subst (Divides g) (let is : ((b *ℤ v) +ℤ t) -ℤ (b *ℤ v) ≡ t = omega (arith, ints) in is) (Divides-difference g ((b *ℤ v) +ℤ t) (b *ℤ v) through multiple)

-- the k of a solution v: b = β·g, D = δ·g, t = τ·g
pub solution-step : (β δ τ u w v k : ℤ) → (u *ℤ β) +ℤ (w *ℤ δ) ≡ pos 1 → (β *ℤ v) +ℤ τ ≡ k *ℤ δ
    → v ≡ neg_ℤ (u *ℤ τ) +ℤ (δ *ℤ ((u *ℤ k) +ℤ (w *ℤ v)))
solution-step β δ τ u w v k one is =
    let whole : ((u *ℤ β) +ℤ (w *ℤ δ)) *ℤ v ≡ v = ap (λ z. z *ℤ v) one ∙ omega (arith, ints) in
    let scaled : u *ℤ ((β *ℤ v) +ℤ τ) ≡ u *ℤ (k *ℤ δ) = ap (λ z. u *ℤ z) is in
    omega (
      arith,
      ints,
      whole,
      scaled,
      add-mul (u *ℤ β) (w *ℤ δ) v,
      mul_assoc u β v,
      mul_assoc w δ v,
      mul-add u (β *ℤ v) τ,
      mul-add δ (u *ℤ k) (w *ℤ v),
      sym (mul_assoc u k δ) ∙ *ℤ_comm (u *ℤ k) δ,
      left_comm w δ v,
    )

-- and each k gives a solution
pub solution-back : (β δ τ u w k : ℤ) → (u *ℤ β) +ℤ (w *ℤ δ) ≡ pos 1
    → (β *ℤ (neg_ℤ (u *ℤ τ) +ℤ (δ *ℤ k))) +ℤ τ ≡ ((w *ℤ τ) +ℤ (β *ℤ k)) *ℤ δ
solution-back β δ τ u w k one =
    let whole : ((u *ℤ β) +ℤ (w *ℤ δ)) *ℤ τ ≡ τ = ap (λ z. z *ℤ τ) one ∙ omega (arith, ints) in
    omega (
      arith,
      ints,
      whole,
      add-mul (u *ℤ β) (w *ℤ δ) τ,
      mul_assoc u β τ,
      mul_assoc w δ τ,
      mul-add β (neg_ℤ (u *ℤ τ)) (δ *ℤ k),
      mul-neg β (u *ℤ τ),
      left_comm u β τ,
      add-mul (w *ℤ τ) (β *ℤ k) δ,
      mul_assoc w τ δ,
      ap (λ z. w *ℤ z) (*ℤ_comm τ δ),
      mul_assoc β k δ,
      ap (λ z. β *ℤ z) (*ℤ_comm k δ),
    )
