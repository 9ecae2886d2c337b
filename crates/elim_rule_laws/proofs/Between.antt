-- Integers between lower and upper bounds: the real, the exact and the dark shadow, and splinters.
use Rattle.std.proofs.Common.{◌≡◌, suc, ℤ, pos, negsuc, neg_ℤ, ◌+ℤ◌, ◌-ℤ◌, ◌*ℤ◌, ◌≤ℤ◌, ◌<ℤ◌, List, [], ◌∷◌, get_or, refl, ◌∙◌, ap, arith}
use Rattle.std.specs.Prelude.{All, Contains, ◌⊎◌}
use Rattle.std.specs.Int.{int_div_euclid}
use Rattle.std.proofs.lemmas.Int.{ints, by_lt_z}
use Rattle.std.proofs.lemmas.List.Elements.{All-nil, All-cons, All-head, All-tail, All-weaker, All-contains}
use lib.IntN.{*ℤ_comm}
use mathlib.Core.Logic.{inl, inr}
use Rattle.base_integers.proofs.Ring.{add-mul, mul-sub, sub-mul, mul_assoc, mul-neg, neg-mul}
use Rattle.base_integers.proofs.Order.{mul_le_right, lt_of_mul_lt}
use Rattle.base_integers.proofs.Floors.{floor-is, floor-below}
use Rattle.elim_rule_laws.specs.Bounds.{Bound, IsPositive, HasUnitFactor, lower_at, upper_at, MeetsLower, MeetsUpper, IsBetween, shadow_at, gap_at, InRealShadow, InDarkShadow, last_splinter, IsOnSplinter}

-- ---- one pair of bounds
-- b·α + a·s = b·(−a·x + α) + a·(b·x + s)
pub shadow-split : (x : ℤ) (l u : Bound) → shadow_at l u ≡ (upper_at x u *ℤ l.factor) +ℤ (lower_at x l *ℤ u.factor)
shadow-split x l u =
    let up : upper_at x u *ℤ l.factor ≡ ((neg_ℤ u.factor *ℤ x) *ℤ l.factor) +ℤ (u.rest *ℤ l.factor) = add-mul (neg_ℤ u.factor *ℤ x) u.rest l.factor in
    let low : lower_at x l *ℤ u.factor ≡ ((l.factor *ℤ x) *ℤ u.factor) +ℤ (l.rest *ℤ u.factor) = add-mul (l.factor *ℤ x) l.rest u.factor in
    let first : (neg_ℤ u.factor *ℤ x) *ℤ l.factor ≡ neg_ℤ (u.factor *ℤ (x *ℤ l.factor)) = mul_assoc (neg_ℤ u.factor) x l.factor ∙ neg-mul u.factor (x *ℤ l.factor) in
    let second : (l.factor *ℤ x) *ℤ u.factor ≡ u.factor *ℤ (x *ℤ l.factor) = *ℤ_comm (l.factor *ℤ x) u.factor ∙ ap (λ (z : ℤ). u.factor *ℤ z) (*ℤ_comm l.factor x) in
    let third = *ℤ_comm u.rest l.factor in
    let fourth = *ℤ_comm l.rest u.factor in
    omega (arith, ints)

pub gap-split : (l u : Bound) → gap_at l u ≡ (((u.factor *ℤ l.factor) -ℤ u.factor) -ℤ l.factor) +ℤ pos 1
gap-split l u = omega (arith, ints, sub-mul u.factor (pos 1) (l.factor -ℤ pos 1), mul-sub u.factor l.factor (pos 1))

not_negative_product : (p k : ℤ) → pos 0 ≤ℤ k → pos 0 ≤ℤ p → pos 0 ≤ℤ (p *ℤ k)
not_negative_product p k h le = omega (arith, ints, mul_le_right (pos 0) p k h le)

pub real_pair : (x : ℤ) (l u : Bound) → IsPositive l → IsPositive u → MeetsLower x l → MeetsUpper x u → pos 0 ≤ℤ shadow_at l u
real_pair x l u pl pu above below =
    let b : pos 0 ≤ℤ l.factor = omega (arith, ints) in
    let a : pos 0 ≤ℤ u.factor = omega (arith, ints) in
    omega (arith, ints, shadow-split x l u, not_negative_product (upper_at x u) l.factor b below, not_negative_product (lower_at x l) u.factor a above)

-- x, less than one step above the least integer of the lower bound, is below an upper bound that is in the dark shadow with it
pub dark_pair : (x : ℤ) (l u : Bound) → IsPositive l → IsPositive u → lower_at x l <ℤ l.factor → pos 0 ≤ℤ (shadow_at l u -ℤ gap_at l u) → MeetsUpper x u
dark_pair x l u pl pu near dark =
    by_lt_z (upper_at x u) (pos 0)
    (λ less.
    let b : pos 0 ≤ℤ l.factor = omega (arith, ints) in
    let a : pos 0 ≤ℤ u.factor = omega (arith, ints) in
    let under : upper_at x u ≤ℤ negsuc 0 = omega (arith, ints) in
    let first = mul_le_right (upper_at x u) (negsuc 0) l.factor b under in
    let close : lower_at x l ≤ℤ (l.factor -ℤ pos 1) = omega (arith, ints) in
    let second = mul_le_right (lower_at x l) (l.factor -ℤ pos 1) u.factor a close in
    absurd (omega (arith, ints, shadow-split x l u, gap-split l u, first, second, sub-mul l.factor (pos 1) u.factor, *ℤ_comm l.factor u.factor)))
    (λ le. le)

-- outside the dark shadow of a pair, b·x + s is at most (A·b − A − b)/A
pub splinter_pair : (a x : ℤ) (l u : Bound) → IsPositive l → IsPositive u → u.factor ≤ℤ a → MeetsUpper x u
    → (shadow_at l u -ℤ gap_at l u) <ℤ pos 0 → lower_at x l ≤ℤ last_splinter a l.factor
splinter_pair a x l u pl pu most below out =
    let b : pos 0 ≤ℤ l.factor = omega (arith, ints) in
    let some : pos 0 <ℤ a = omega (arith, ints) in
    let first = not_negative_product (upper_at x u) l.factor b below in
    let left : ℤ = (l.factor -ℤ pos 1) -ℤ lower_at x l in
    let parts : left *ℤ u.factor ≡ ((l.factor *ℤ u.factor) -ℤ u.factor) -ℤ (lower_at x l *ℤ u.factor) =
    omega (arith, ints, sub-mul (l.factor -ℤ pos 1) (lower_at x l) u.factor, sub-mul l.factor (pos 1) u.factor) in
    let more : l.factor ≤ℤ (left *ℤ u.factor) = omega (arith, ints, shadow-split x l u, gap-split l u, *ℤ_comm l.factor u.factor) in
    let positive : pos 0 <ℤ left = lt_of_mul_lt (pos 0) left u.factor (omega (arith, ints)) (omega (arith, ints)) in
    let grows = mul_le_right u.factor a left (omega (arith, ints)) most in
    let whole : a *ℤ left ≡ ((a *ℤ l.factor) -ℤ a) -ℤ (lower_at x l *ℤ a) =
    omega (arith, ints, mul-sub a (l.factor -ℤ pos 1) (lower_at x l), mul-sub a l.factor (pos 1), *ℤ_comm a (lower_at x l)) in
    floor-below (((a *ℤ l.factor) -ℤ a) -ℤ l.factor) a (lower_at x l) some (omega (arith, ints, *ℤ_comm u.factor left))

-- ---- lists of bounds of one side
-- the least integer that meets a lower bound: −floor(s/b)
least_of : Bound → ℤ
least_of l = neg_ℤ (int_div_euclid l.rest l.factor)

least-value : (l : Bound) → IsPositive l → (MeetsLower (least_of l) l) × (lower_at (least_of l) l <ℤ l.factor)
unfolding least_of
least-value l p =
    let q : ℤ = int_div_euclid l.rest l.factor in
    let is = floor-is l.rest l.factor p in
    let value : lower_at (neg_ℤ q) l ≡ l.rest -ℤ (q *ℤ l.factor) = omega (arith, ints, mul-neg l.factor q, *ℤ_comm l.factor q) in
    (omega (arith, ints, is.below), omega (arith, ints, is.greatest))

lower-rises : (x y : ℤ) (l : Bound) → IsPositive l → x ≤ℤ y → MeetsLower x l → MeetsLower y l
lower-rises x y l p le h =
    let b : pos 0 ≤ℤ l.factor = omega (arith, ints) in
    omega (arith, ints, mul_le_right x y l.factor b le, *ℤ_comm l.factor x, *ℤ_comm l.factor y)

-- an integer that meets all lower bounds, and one of them by less than its coefficient
record Least (ls : List Bound) : Type 0 where
  x : ℤ
  meets : All (MeetsLower x) ls
  bound : Bound
  among : Contains ls bound
  near : lower_at x bound <ℤ bound.factor

contains_head : (l : Bound) (ls : List Bound) → Contains (l ∷ ls) l
contains_head l ls = (0, omega arith, refl)

contains_tail : (l m : Bound) (ls : List Bound) → Contains ls m → Contains (l ∷ ls) m
contains_tail l m ls h = (suc h.0, let lt = h.1 in omega arith, h.2)

least : (l : Bound) (ls : List Bound) → All IsPositive (l ∷ ls) → Least (l ∷ ls)
least l [] p =
    let one = least-value l (All-head IsPositive l [] p) in
    record { x = least_of l; meets = All-cons (MeetsLower (least_of l)) l [] one.0 (All-nil (MeetsLower (least_of l))); bound = l; among = contains_head l []; near = one.1 }
least l (m ∷ ms) p =
    let head : IsPositive l = All-head IsPositive l (m ∷ ms) p in
    let tail : All IsPositive (m ∷ ms) = All-tail IsPositive l (m ∷ ms) p in
    let one = least-value l head in
    let r = least m ms tail in
    by_lt_z r.x (least_of l)
    (λ lt. record {
      x = least_of l;
      meets = All-cons (MeetsLower (least_of l)) l (m ∷ ms) one.0 (λ k d le. lower-rises r.x (least_of l) _ (tail k d le) (omega (arith, ints)) (r.meets k d le));
      bound = l;
      among = contains_head l (m ∷ ms);
      near = one.1;
    })
    (λ le. record {
      x = r.x;
      meets = All-cons (MeetsLower r.x) l (m ∷ ms) (lower-rises (least_of l) r.x l head le one.0) r.meets;
      bound = r.bound;
      among = contains_tail l r.bound (m ∷ ms) r.among;
      near = r.near;
    })

pub lower-met : (ls : List Bound) → All IsPositive ls → (x : ℤ) × All (MeetsLower x) ls
lower-met [] p = (pos 0, All-nil (MeetsLower (pos 0)))
lower-met (l ∷ ls) p = let r = least l ls p in (r.x, r.meets)

-- −x meets a bound as an upper one exactly where x meets it as a lower one
mirrored : (x : ℤ) (b : Bound) → upper_at (neg_ℤ x) b ≡ lower_at x b
mirrored x b = omega (arith, ints, neg-mul b.factor (neg_ℤ x), mul-neg b.factor x)

pub upper-met : (us : List Bound) → All IsPositive us → (x : ℤ) × All (MeetsUpper x) us
upper-met us p =
    let r = lower-met us p in
    (neg_ℤ r.0, All-weaker (MeetsLower r.0) (MeetsUpper (neg_ℤ r.0)) (λ b h. omega (arith, ints, mirrored r.0 b)) us r.1)

-- ---- bounds of both sides
pub real_shadow : (ls us : List Bound) (x : ℤ) → All IsPositive ls → All IsPositive us → IsBetween ls us x → InRealShadow ls us
real_shadow ls us x pl pu h k d lt j e le = real_pair x _ _ (pl k d lt) (pu j e le) (h.above k d lt) (h.below j e le)

pub dark_shadow : (ls us : List Bound) → All IsPositive ls → All IsPositive us → InDarkShadow ls us → (x : ℤ) × IsBetween ls us x
dark_shadow [] us pl pu h =
    let r = upper-met us pu in
    (r.0, record { above = All-nil (MeetsLower r.0); below = r.1 })
dark_shadow (l ∷ ls) us pl pu h =
    let r = least l ls pl in
    let positive : IsPositive r.bound = All-contains IsPositive (l ∷ ls) r.bound pl r.among in
    let dark = All-contains (λ m. All (λ u. pos 0 ≤ℤ (shadow_at m u -ℤ gap_at m u)) us) (l ∷ ls) r.bound h r.among in
    (r.x, record { above = r.meets; below = λ k d lt. dark_pair r.x r.bound _ positive (pu k d lt) r.near (dark k d lt) })

unit_positive : (b : Bound) → HasUnitFactor b → IsPositive b
unit_positive b h = omega (arith, ints)

pub exact_lower : (ls us : List Bound) → All HasUnitFactor ls → All IsPositive us → InRealShadow ls us → (x : ℤ) × IsBetween ls us x
exact_lower ls us ul pu h =
    dark_shadow ls us (All-weaker HasUnitFactor IsPositive unit_positive ls ul) pu (λ k d lt j e le. no_gap_left (get_or ls k d) (get_or us j e) (ul k d lt) (h k d lt j e le))
  where
    no_gap_left : (l u : Bound) → HasUnitFactor l → pos 0 ≤ℤ shadow_at l u → pos 0 ≤ℤ (shadow_at l u -ℤ gap_at l u)
    no_gap_left l u one real =
        let none : gap_at l u ≡ pos 0 = ap (λ (z : ℤ). (u.factor -ℤ pos 1) *ℤ (z -ℤ pos 1)) one ∙ omega (arith, ints) in
        omega (arith, ints)

pub exact_upper : (ls us : List Bound) → All IsPositive ls → All HasUnitFactor us → InRealShadow ls us → (x : ℤ) × IsBetween ls us x
exact_upper ls us pl uu h =
    dark_shadow ls us pl (All-weaker HasUnitFactor IsPositive unit_positive us uu) (λ k d lt j e le. no_gap_right (get_or ls k d) (get_or us j e) (uu j e le) (h k d lt j e le))
  where
    no_gap_right : (l u : Bound) → HasUnitFactor u → pos 0 ≤ℤ shadow_at l u → pos 0 ≤ℤ (shadow_at l u -ℤ gap_at l u)
    no_gap_right l u one real =
        let none : gap_at l u ≡ pos 0 = ap (λ (z : ℤ). (z -ℤ pos 1) *ℤ (l.factor -ℤ pos 1)) one ∙ omega (arith, ints) in
        omega (arith, ints)

-- ---- splinters
pair_cases : (a x : ℤ) (l u : Bound) → IsPositive l → IsPositive u → u.factor ≤ℤ a → MeetsUpper x u
    → (pos 0 ≤ℤ (shadow_at l u -ℤ gap_at l u)) ⊎ (lower_at x l ≤ℤ last_splinter a l.factor)
pair_cases a x l u pl pu most below =
    by_lt_z (shadow_at l u -ℤ gap_at l u) (pos 0) (λ out. inr (splinter_pair a x l u pl pu most below out)) (λ dark. inl dark)

-- one bound with all upper bounds
bound_cases : (a x : ℤ) (l : Bound) (us : List Bound) → IsPositive l → All IsPositive us → All (λ u. u.factor ≤ℤ a) us → All (MeetsUpper x) us
    → All (λ u. pos 0 ≤ℤ (shadow_at l u -ℤ gap_at l u)) us ⊎ (lower_at x l ≤ℤ last_splinter a l.factor)
bound_cases a x l [] pl pu most below = inl (All-nil (λ u. pos 0 ≤ℤ (shadow_at l u -ℤ gap_at l u)))
bound_cases a x l (u ∷ us) pl pu most below =
    both (pair_cases a x l u pl (All-head IsPositive u us pu) (All-head (λ v. v.factor ≤ℤ a) u us most) (All-head (MeetsUpper x) u us below))
    (bound_cases a x l us pl (All-tail IsPositive u us pu) (All-tail (λ v. v.factor ≤ℤ a) u us most) (All-tail (MeetsUpper x) u us below))
  where
    both : (pos 0 ≤ℤ (shadow_at l u -ℤ gap_at l u)) ⊎ (lower_at x l ≤ℤ last_splinter a l.factor)
        → All (λ v. pos 0 ≤ℤ (shadow_at l v -ℤ gap_at l v)) us ⊎ (lower_at x l ≤ℤ last_splinter a l.factor)
        → All (λ v. pos 0 ≤ℤ (shadow_at l v -ℤ gap_at l v)) (u ∷ us) ⊎ (lower_at x l ≤ℤ last_splinter a l.factor)
    both (inr h) k = inr h
    both (inl h) (inr k) = inr k
    both (inl h) (inl k) = inl (All-cons (λ v. pos 0 ≤ℤ (shadow_at l v -ℤ gap_at l v)) u us h k)

on_later_splinter : (a x : ℤ) (l : Bound) (ls : List Bound) → IsOnSplinter a ls x → IsOnSplinter a (l ∷ ls) x
on_later_splinter a x l ls h = record { bound = h.bound; among = contains_tail l h.bound ls h.among; at_least = h.at_least; at_most = h.at_most }

pub splinter : (ls us : List Bound) (a x : ℤ) → All IsPositive ls → All IsPositive us → All (λ u. u.factor ≤ℤ a) us
    → IsBetween ls us x → InDarkShadow ls us ⊎ IsOnSplinter a ls x
splinter [] us a x pl pu most h = inl (All-nil (λ l. All (λ u. pos 0 ≤ℤ (shadow_at l u -ℤ gap_at l u)) us))
splinter (l ∷ ls) us a x pl pu most h =
    either (bound_cases a x l us (All-head IsPositive l ls pl) pu most h.below)
    (splinter ls us a x (All-tail IsPositive l ls pl) pu most (record { above = All-tail (MeetsLower x) l ls h.above; below = h.below }))
  where
    either : All (λ u. pos 0 ≤ℤ (shadow_at l u -ℤ gap_at l u)) us ⊎ (lower_at x l ≤ℤ last_splinter a l.factor)
        → InDarkShadow ls us ⊎ IsOnSplinter a ls x → InDarkShadow (l ∷ ls) us ⊎ IsOnSplinter a (l ∷ ls) x
    either (inr at_most) k = inr (record { bound = l; among = contains_head l ls; at_least = All-head (MeetsLower x) l ls h.above; at_most = at_most })
    either (inl dark) (inr k) = inr (on_later_splinter a x l ls k)
    either (inl dark) (inl k) = inl (All-cons (λ m. All (λ u. pos 0 ≤ℤ (shadow_at m u -ℤ gap_at m u)) us) l ls dark k)
