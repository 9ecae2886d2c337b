-- The steps of Euclid's algorithm with the factors of its result.
use Rattle.std.proofs.Common.{◌≡◌, ◌*◌, ◌+◌, ◌-◌, ◌<◌, ◌≤◌, ◌/◌, ◌%◌, ◌^◌, ℕ, zero, suc, ℤ, pos, ◌+ℤ◌, ◌*ℤ◌, neg_ℤ, ◌≤ℤ◌, ◌<ℤ◌, sym, ◌∙◌, ap, subst, refl, arith}
use Rattle.std.specs.Prelude.{unsigned_abs}
use Rattle.std.specs.Int.{IsGcd}
use Rattle.std.proofs.lemmas.Int.{ints}
use Rattle.base_integers.proofs.Ring.{neg-mul}
use Rattle.base_integers.specs.Gcd.{IsGcdOf}
use Rattle.linear_term.specs.Range.{InRange}
use Rattle.std.proofs.Math.Nat.{dvd-sub, dvd-mul_left, dvd-mul_left_of_dvd, mul-div_left, mul-le-mul_left, mul-le-mul_right}
use Rattle.std.proofs.lemmas.Nat.{div-add-mod'}
use Rattle.std.proofs.lemmas.Nat.Gcd.{le_of_dvd, same_from_IsGcd, IsGcd-from_zero}
use Prim.Native.Nat.{◌∣◌}
use Rattle.linear_term.specs.Cross.{Crosses}
use Rattle.linear_term.specs.declared.numbers.Cross.{Cross}

-- a common divisor of numbers below n is below n
pub gcd_below : (a b g n : ℕ) → IsGcd a b g → a < n → b < n → g < n
gcd_below zero zero g n h lt lu =
    let none : g ≡ 0 = same_from_IsGcd 0 0 g 0 h (IsGcd-from_zero 0 0 refl) in
    omega arith
gcd_below (suc a) b g n h lt lu =
    let le : g ≤ suc a = le_of_dvd {m = g} {n = suc a} (omega arith) h.0 in
    omega arith
gcd_below zero (suc b) g n h lt lu =
    let le : g ≤ suc b = le_of_dvd {m = g} {n = suc b} (omega arith) h.1 in
    omega arith

-- b divides a
pub crosses_ends : (a b : ℕ) → 0 < b → a % b ≡ 0 → Crosses a b (record { g = b; p = 0; n = 0 })
crosses_ends a b some e = record {
  u = a / b;
  v = 1;
  a_is = let parts : a / b * b + a % b ≡ a = div-add-mod' a b in omega arith;
  b_is = omega arith;
  positive = some;
  at_zero = λ _. refl;
  above = λ h. absurd (omega arith);
  p_below = omega arith;
  n_below = λ h. absurd (omega arith);
}

by_zero : {P : Type 0} (n : ℕ) → (n ≡ 0 → P) → (0 < n → P) → P
by_zero zero f g = f refl
by_zero (suc n) f g = g (omega arith)

two_at_least : (u r b : ℕ) → b ≡ u * r → r < b → 1 < u
two_at_least zero r b e lt = absurd (omega arith)
two_at_least (suc zero) r b e lt = absurd (omega arith)
two_at_least (suc (suc u)) r b e lt = omega arith

-- the rest divides b
pub crosses_rest : (a b rest : ℕ) (c : Cross) → 0 < b → rest ≡ a % b → Crosses b rest c → c.p ≡ 0
    → Crosses a b (record { g = rest; p = 1; n = a / b })
crosses_rest a b rest c some e h z =
    let parts : a / b * b + a % b ≡ a = div-add-mod' a b in
    let g_is : c.g ≡ rest = h.at_zero z in
    let b_is : b ≡ h.u * rest = subst (λ (g : ℕ). b ≡ h.u * g) g_is h.a_is in
    let lt : rest < b = omega arith in
    let above_one : 1 < h.u = two_at_least h.u rest b b_is lt in
    record {
      u = a / b * h.u + 1;
      v = h.u;
      a_is = omega (arith, ap (λ (k : ℕ). a / b * k) b_is);
      b_is = b_is;
      positive = subst (λ (g : ℕ). 0 < g) g_is h.positive;
      at_zero = λ none. absurd (omega arith);
      above = λ _. omega arith;
      p_below = above_one;
      n_below = λ _. omega (arith, mul-le-mul_left {m = 1} {n = h.u} (a / b) (omega arith));
    }

-- were n' 0, then b would be at most g, and so at most the rest
some_from_step : (g p' n' rest b v : ℕ) → p' * b ≡ g + n' * rest → 0 < p' → rest ≡ v * g → rest < b → p' ≤ v → 0 < n'
some_from_step g zero n' rest b v above p_some rest_is lt le = absurd (omega arith)
some_from_step g (suc p') n' rest b zero above p_some rest_is lt le = absurd (omega arith)
some_from_step g (suc p') zero rest b (suc v) above p_some rest_is lt le = absurd (omega arith)
some_from_step g (suc p') (suc n') rest b (suc v) above p_some rest_is lt le = omega arith

-- the step in general, with the numbers as they are: u = b / g, v = rest / g, p = u - n' and w = v - p'
crosses_more_at : (a b rest g p n u v p' n' w : ℕ) → 0 < b → a ≡ a / b * b + rest → rest < b → 0 < g → b ≡ u * g → rest ≡ v * g
    → p' * b ≡ g + n' * rest → 0 < p' → w + p' ≡ v → p + n' ≡ u → n' < u → n ≡ p * (a / b) + w
    → Crosses a b (record { g = g; p = p; n = n })
crosses_more_at a b rest g p n u v p' n' w some parts lt positive b_is rest_is above p_some w_is p_is n_less n_is = record {
  u = a / b * u + v;
  v = u;
  a_is = omega (arith, ap (λ (k : ℕ). a / b * k) b_is);
  b_is = b_is;
  positive = positive;
  at_zero = λ none. absurd (omega arith);
  above = λ _.
      let first : p * a ≡ p * (a / b) * b + p * rest = omega (arith, ap (λ (k : ℕ). p * k) parts) in
      let second : n * b ≡ p * (a / b) * b + w * b = omega (arith, ap (λ (k : ℕ). k * b) n_is) in
      let third : p * rest + n' * rest ≡ u * rest = omega (arith, ap (λ (k : ℕ). k * rest) p_is) in
      let fourth : u * rest ≡ v * b = omega (arith, ap (λ (k : ℕ). u * k) rest_is, ap (λ (k : ℕ). v * k) b_is) in
      let fifth : w * b + p' * b ≡ v * b = omega (arith, ap (λ (k : ℕ). k * b) w_is) in
      omega arith;
  p_below =
      let n_some : 0 < n' = some_from_step g p' n' rest b v above p_some rest_is lt (omega arith) in
      omega arith;
  n_below = λ _.
      let le : p * (a / b) ≤ u * (a / b) = mul-le-mul_right {m = p} {n = u} (a / b) (omega arith) in
      omega arith;
}

pub crosses_more : (a b rest : ℕ) (c : Cross) (p n : ℕ) → 0 < b → rest ≡ a % b → Crosses b rest c → 0 < c.p
    → p ≡ b / c.g - c.n → n ≡ p * (a / b) + (rest / c.g - c.p) → Crosses a b (record { g = c.g; p = p; n = n })
crosses_more a b rest c p n some e h z p_is n_is =
    let parts : a / b * b + a % b ≡ a = div-add-mod' a b in
    let u_is : b / c.g ≡ h.u = ap (λ (k : ℕ). k / c.g) h.a_is ∙ mul-div_left h.u h.positive in
    let v_is : rest / c.g ≡ h.v = ap (λ (k : ℕ). k / c.g) h.b_is ∙ mul-div_left h.v h.positive in
    let n_less : c.n < h.u = h.n_below z in
    let p_less : c.p < h.v = h.p_below in
    crosses_more_at a b rest c.g p n h.u h.v c.p c.n (h.v - c.p) some (omega arith) (omega arith) h.positive h.a_is h.b_is
    (h.above z) z (omega arith) (omega arith) n_less (n_is ∙ ap (λ (k : ℕ). p * (a / b) + (k - c.p)) v_is)

-- ---- what the sizes say of the numbers
pub IsGcd-from_crosses : (a b : ℕ) (c : Cross) → Crosses a b c → IsGcd a b c.g
IsGcd-from_crosses a b c h = (
  subst (λ (k : ℕ). c.g ∣ k) (sym h.a_is) (dvd-mul_left c.g h.u),
  subst (λ (k : ℕ). c.g ∣ k) (sym h.b_is) (dvd-mul_left c.g h.v),
  λ d da db. by_zero c.p
      (λ none. subst (λ (k : ℕ). d ∣ k) (sym (h.at_zero none)) db)
      (λ some. subst (λ (k : ℕ). d ∣ k)
      (let is : c.p * a ≡ c.g + c.n * b = h.above some in let same : c.p * a - c.n * b ≡ c.g = omega arith in same)
      (dvd-sub d {m = c.p * a} {n = c.n * b} (dvd-mul_left_of_dvd d {b = a} da c.p) (dvd-mul_left_of_dvd d {b = b} db c.n))),
)

pub gcd_small : (a b : ℤ) (x y g : ℕ) → x ≡ unsigned_abs a → y ≡ unsigned_abs b → IsGcd x y g → InRange a → InRange b → g < 2 ^ 127
gcd_small a b x y g e d h lt lu = gcd_below x y g (2 ^ 127) h (omega arith) (omega arith)

pub gcd_of_sizes : (a b : ℤ) (x y g : ℕ) → x ≡ unsigned_abs a → y ≡ unsigned_abs b → IsGcd x y g → IsGcdOf a b (pos g)
gcd_of_sizes a b x y g e d h = record {
  not_negative = omega (arith, ints);
  greatest = subst (λ (k : ℕ). IsGcd k (unsigned_abs b) g) e (subst (λ (k : ℕ). IsGcd x k g) d h);
}

-- the three numbers are as small as a and b
at_most_product : (v g : ℕ) → 0 < v → 0 < g → (g ≤ v * g) × (v ≤ v * g)
at_most_product zero g lt le = absurd (omega arith)
at_most_product v zero lt le = absurd (omega arith)
at_most_product (suc v) (suc g) lt le = (omega arith, omega arith)

pub cross_small : (a b m : ℕ) (c : Cross) → Crosses a b c → 0 < c.p → a < m → b < m → (c.g < m) × (c.p < m) × (c.n < m)
cross_small a b m c h some lt lu =
    let v_some : 0 < h.v = omega (arith, h.p_below) in
    let u_some : 0 < h.u = omega (arith, h.n_below some) in
    let first : (c.g ≤ h.v * c.g) × (h.v ≤ h.v * c.g) = at_most_product h.v c.g v_some h.positive in
    let second : (c.g ≤ h.u * c.g) × (h.u ≤ h.u * c.g) = at_most_product h.u c.g u_some h.positive in
    (omega (arith, first, h.b_is), omega (arith, first, h.b_is, h.p_below), omega (arith, second, h.a_is, h.n_below some))

-- a positive number is its size
pub positive_size : (a : ℤ) (x : ℕ) → pos 0 <ℤ a → x ≡ unsigned_abs a → a ≡ pos x
positive_size a x lt e = omega (arith, ints)

pub cross_sum : (a b : ℤ) (x y : ℕ) (c : Cross) → a ≡ pos x → b ≡ pos y → Crosses x y c → 0 < c.p
    → pos c.g ≡ (pos c.p *ℤ a) +ℤ (neg_ℤ (pos c.n) *ℤ b)
cross_sum a b x y c e d h some =
    let is : c.p * x ≡ c.g + c.n * y = h.above some in
    let first : pos c.p *ℤ a ≡ pos c.p *ℤ pos x = ap (λ (z : ℤ). pos c.p *ℤ z) e in
    let second : neg_ℤ (pos c.n) *ℤ b ≡ neg_ℤ (pos c.n) *ℤ pos y = ap (λ (z : ℤ). neg_ℤ (pos c.n) *ℤ z) d in
    omega (arith, ints, neg-mul (pos c.n) (pos y))

pub cross_least : (b : ℤ) (x y : ℕ) (c : Cross) → b ≡ pos y → Crosses x y c → (pos 0 ≤ℤ pos c.p) × ((pos c.p *ℤ pos c.g) <ℤ b)
cross_least b x y c d h =
    let more : (c.p + 1) * c.g ≤ h.v * c.g = mul-le-mul_right {m = c.p + 1} {n = h.v} c.g (omega (arith, h.p_below)) in
    (omega (arith, ints), omega (arith, ints, h.b_is, h.positive))
