-- The nearest of candidates, and the candidates of a class between bounds.
use Rattle.std.proofs.Common.{◌≡◌, ◌<◌, ◌≤◌, ℕ, suc, ℤ, pos, negsuc, ◌≤ℤ◌, ◌<ℤ◌, Bool, true, false, ◌&&◌, ◌||◌, cond, nat_lt, nat_le, List, [], ◌∷◌, ◌++◌, Option, Some, None, refl, sym, ◌∙◌, ap, arith}
use Rattle.std.specs.Prelude.{◌↔◌, ◌⊎◌}
use Rattle.std.proofs.lemmas.Bool.{cases_lt}
use mathlib.Core.Logic.{inl, inr}
use Rattle.std.specs.List.{list_all, list_any, flat_map, AllByRecursion}
use Rattle.std.specs.Int.{int_max, int_min}
use Rattle.std.proofs.lemmas.Int.{ints, by_lt_z, int_max_is, int_min_is}
use Rattle.std.proofs.lemmas.Bool.Decides.{nat_tests}
use Rattle.std.proofs.lemmas.List.Folds.{list_all-append, list_any-append}
use Rattle.base_integers.specs.Divides.{IsCongruent}
use Rattle.base_integers.proofs.Residues.{least_from-bound, least_from-congruent, least_from-least, greatest_to-bound, greatest_to-congruent, greatest_to-greatest}
use Rattle.clause_set.proofs.NormalTruth.{le_decides}
use Rattle.solve_laws.specs.Best.{rank, IsNearer}
use Rattle.solve_laws.specs.Nearest.{nearer, nearest_of, nearest, AreCandidates, is_at_most, is_at_least, not_below_zero, below_zero, upward, downward, when, between}

-- ---- rank
pub rank-up : (u v : ℤ) → pos 0 ≤ℤ v → v ≤ℤ u → rank v ≤ rank u
rank-up (pos u) (pos v) h le = omega (arith, ints)
rank-up (pos u) (negsuc v) h le = absurd (omega (arith, ints))
rank-up (negsuc u) v h le = absurd (omega (arith, ints))

pub rank-down : (u v : ℤ) → v <ℤ pos 0 → u ≤ℤ v → rank v ≤ rank u
rank-down (negsuc u) (negsuc v) h le = omega (arith, ints)
rank-down (negsuc u) (pos v) h le = absurd (omega (arith, ints))
rank-down (pos u) v h le = absurd (omega (arith, ints))

pub nearer-rank : (u v : ℤ) → IsNearer u v → rank u < rank v
nearer-rank (pos a) (pos b) (inl h) = omega (arith, h)
nearer-rank (pos a) (negsuc b) (inl h) = omega (arith, h)
nearer-rank (negsuc a) (pos b) (inl h) = omega (arith, h)
nearer-rank (negsuc a) (negsuc b) (inl h) = omega (arith, h)
nearer-rank (pos a) (pos b) (inr h) = absurd (omega (arith, ints, h.2))
nearer-rank (pos a) (negsuc b) (inr h) = omega (arith, h.0)
nearer-rank (negsuc a) v (inr h) = absurd (omega (arith, ints, h.1))

pub rank-nearer : (u v : ℤ) → rank u < rank v → IsNearer u v
rank-nearer (pos a) (pos b) h = inl (omega (arith, h))
rank-nearer (negsuc a) (pos b) h = inl (omega (arith, h))
rank-nearer (negsuc a) (negsuc b) h = inl (omega (arith, h))
rank-nearer (pos a) (negsuc b) h = by (cases_lt a (suc b))
  where
    by : (a < suc b) ⊎ (suc b ≤ a) → IsNearer (pos a) (negsuc b)
    by (inl l) = inl l
    by (inr l) = inr (omega (arith, h, l), omega (arith, ints, l), omega (arith, ints))

-- ---- the nearest
nearer-satisfies : (p : ℤ → Bool) (u v : ℤ) → p u ≡ true → p v ≡ true → p (nearer u v) ≡ true
nearer-satisfies p u v hu hv = by (nat_lt (rank u) (rank v))
  where
    by : (b : Bool) → p (cond b u v) ≡ true
    by true = hu
    by false = hv

nearer-left : (u v : ℤ) → rank (nearer u v) ≤ rank u
nearer-left u v = by (nat_lt (rank u) (rank v)) refl
  where
    by : (b : Bool) → nat_lt (rank u) (rank v) ≡ b → rank (cond b u v) ≤ rank u
    by true e = omega arith
    by false e = grind (arith, nat_tests)

nearer-right : (u v : ℤ) → rank (nearer u v) ≤ rank v
nearer-right u v = by (nat_lt (rank u) (rank v)) refl
  where
    by : (b : Bool) → nat_lt (rank u) (rank v) ≡ b → rank (cond b u v) ≤ rank v
    by true e = grind (arith, nat_tests)
    by false e = omega arith

pub and_left : (a b : Bool) → (a && b) ≡ true → a ≡ true
and_left true b h = refl
and_left false b h = absurd (cc)

pub and_right : (a b : Bool) → (a && b) ≡ true → b ≡ true
and_right true b h = h
and_right false b h = absurd (cc)

pub by_or : (a b : Bool) (P : Type 0) → (a || b) ≡ true → (a ≡ true → P) → (b ≡ true → P) → P
by_or true b P h f g = f refl
by_or false b P h f g = g h

nearest_of-satisfies : (p : ℤ → Bool) (v : ℤ) (vs : List ℤ) → p v ≡ true → list_all p vs ≡ true → p (nearest_of v vs) ≡ true
nearest_of-satisfies p v [] h all = h
nearest_of-satisfies p v (u ∷ us) h all = nearest_of-satisfies p (nearer u v) us (nearer-satisfies p u v (and_left _ _ all) h) (and_right _ _ all)

le_of : (a b : ℕ) → nat_le a b ≡ true → a ≤ b
le_of a b h = grind (arith, nat_tests)

le_is : (a b : ℕ) → a ≤ b → nat_le a b ≡ true
le_is a b h = grind (arith, nat_tests)

nearest_of-first : (v : ℤ) (vs : List ℤ) → rank (nearest_of v vs) ≤ rank v
nearest_of-first v [] = omega arith
nearest_of-first v (u ∷ us) = let r = nearest_of-first (nearer u v) us in let s = nearer-right u v in omega (arith, r, s)

nearest_of-least : (n : ℕ) (v : ℤ) (vs : List ℤ) → list_any (λ u. nat_le (rank u) n) vs ≡ true → rank (nearest_of v vs) ≤ n
nearest_of-least n v [] h = absurd (cc)
nearest_of-least n v (u ∷ us) h =
    by_or (nat_le (rank u) n) (list_any (λ w. nat_le (rank w) n) us) (rank (nearest_of (nearer u v) us) ≤ n) h
    (λ t. let r = nearest_of-first (nearer u v) us in let s = nearer-left u v in let k = le_of (rank u) n t in omega (arith, r, s, k))
    (λ t. nearest_of-least n (nearer u v) us t)

-- the nearest candidate satisfies p, and comes first of all numbers that do
pub nearest-best : (p : ℤ → Bool) (vs : List ℤ) (u : ℤ) → AreCandidates p vs → p u ≡ true → (p (nearest vs) ≡ true) × (rank (nearest vs) ≤ rank u)
nearest-best p [] u h t = absurd (let n = h.near u t in cc)
nearest-best p (v ∷ vs) u h t = (
  nearest_of-satisfies p v vs (and_left _ _ h.sound) (and_right _ _ h.sound),
  by_or (nat_le (rank v) (rank u)) (list_any (λ w. nat_le (rank w) (rank u)) vs) (rank (nearest_of v vs) ≤ rank u) (h.near u t)
      (λ b. let r = nearest_of-first v vs in let k = le_of (rank v) (rank u) b in omega (arith, r, k))
      (λ b. nearest_of-least (rank u) v vs b),
)

-- some number satisfies p exactly where there is a candidate
pub candidates-some : (p : ℤ → Bool) (v : ℤ) (vs : List ℤ) → AreCandidates p (v ∷ vs) → p v ≡ true
candidates-some p v vs h = and_left _ _ h.sound

pub candidates-none : (p : ℤ → Bool) (u : ℤ) → AreCandidates p [] → p u ≡ false
candidates-none p u h = by (p u) (h.near u)
  where
    by : (b : Bool) → (b ≡ true → false ≡ true) → b ≡ false
    by true f = absurd (let n = f refl in cc)
    by false f = refl

-- ---- candidates of several conditions
pub candidates-same : (p q : ℤ → Bool) (vs : List ℤ) → ((v : ℤ) → p v ≡ q v) → AreCandidates p vs → AreCandidates q vs
candidates-same p q vs e h = record { sound = all vs h.sound; near = λ u t. h.near u (e u ∙ t) }
  where
    all : (us : List ℤ) → list_all p us ≡ true → list_all q us ≡ true
    all [] t = refl
    all (u ∷ us) t = ap (λ b. b && list_all q us) (sym (e u) ∙ and_left _ _ t) ∙ all us (and_right _ _ t)

pub or_left : (a b : Bool) → a ≡ true → (a || b) ≡ true
or_left true b h = refl
or_left false b h = absurd (cc)

pub or_right : (a b : Bool) → b ≡ true → (a || b) ≡ true
or_right true b h = refl
or_right false b h = h

pub both : (a b : Bool) → a ≡ true → b ≡ true → (a && b) ≡ true
both true b h k = k
both false b h k = absurd (cc)

all_weaker : (p q : ℤ → Bool) → ((v : ℤ) → p v ≡ true → q v ≡ true) → (vs : List ℤ) → list_all p vs ≡ true → list_all q vs ≡ true
all_weaker p q f [] h = refl
all_weaker p q f (v ∷ vs) h = both (q v) (list_all q vs) (f v (and_left _ _ h)) (all_weaker p q f vs (and_right _ _ h))

pub candidates-append : (p q : ℤ → Bool) (us vs : List ℤ) → AreCandidates p us → AreCandidates q vs → AreCandidates (λ v. p v || q v) (us ++ vs)
candidates-append p q us vs h k = record {
  sound = list_all-append (λ v. p v || q v) us vs ∙ both _ _ (all_weaker p (λ v. p v || q v) (λ v t. or_left (p v) (q v) t) us h.sound)
      (all_weaker q (λ v. p v || q v) (λ v t. or_right (p v) (q v) t) vs k.sound);
  near = λ u t. list_any-append (λ v. nat_le (rank v) (rank u)) us vs
      ∙ by_or (p u) (q u) _ t (λ a. or_left _ _ (h.near u a)) (λ a. or_right (list_any (λ v. nat_le (rank v) (rank u)) us) _ (k.near u a));
}

pub candidates-flat : {C : Type 0} (t : C → ℤ → Bool) (f : C → List ℤ) (cs : List C) → AllByRecursion (λ c. AreCandidates (t c) (f c)) cs
    → AreCandidates (λ v. list_any (λ c. t c v) cs) (flat_map f cs)
candidates-flat t f [] h = record { sound = refl; near = λ u e. e }
candidates-flat t f (c ∷ cs) h = candidates-append (t c) (λ v. list_any (λ d. t d v) cs) (f c) (flat_map f cs) h.0 (candidates-flat t f cs h.1)

-- ---- a class between bounds
-- the number is in the class r modulo m and between the bounds
pub record IsBetween (m r : ℤ) (lo hi : Option ℤ) (v : ℤ) : Type 0 where
  pub congruent : IsCongruent m v r
  pub low : is_at_least v lo ≡ true
  pub high : is_at_most v hi ≡ true

max-bounds : (k : ℤ) → (k ≤ℤ int_max k (pos 0)) × (pos 0 ≤ℤ int_max k (pos 0)) × ((v : ℤ) → k ≤ℤ v → pos 0 ≤ℤ v → int_max k (pos 0) ≤ℤ v)
max-bounds k = let e = int_max_is k (pos 0) in (omega (arith, ints, e), omega (arith, ints, e), λ v a b. omega (arith, ints, e))

min-bounds : (k : ℤ) → (int_min k (negsuc 0) ≤ℤ k) × (int_min k (negsuc 0) ≤ℤ negsuc 0) × ((v : ℤ) → v ≤ℤ k → v ≤ℤ negsuc 0 → v ≤ℤ int_min k (negsuc 0))
min-bounds k = let e = int_min_is k (negsuc 0) in (omega (arith, ints, e), omega (arith, ints, e), λ v a b. omega (arith, ints, e))

from_low : (lo : Option ℤ) (v : ℤ) → not_below_zero lo ≤ℤ v → (pos 0 ≤ℤ v) × (is_at_least v lo ≡ true)
from_low None v h = (h, refl)
from_low (Some k) v h = let m = max-bounds k in (omega (arith, ints, h, m.1), (le_decides k v).1 (omega (arith, ints, h, m.0)))

to_low : (lo : Option ℤ) (v : ℤ) → pos 0 ≤ℤ v → is_at_least v lo ≡ true → not_below_zero lo ≤ℤ v
to_low None v h t = h
to_low (Some k) v h t = (max-bounds k).2 v ((le_decides k v).0 t) h

from_high : (hi : Option ℤ) (v : ℤ) → v ≤ℤ below_zero hi → (v <ℤ pos 0) × (is_at_most v hi ≡ true)
from_high None v h = (omega (arith, ints, h), refl)
from_high (Some k) v h = let m = min-bounds k in (omega (arith, ints, h, m.1), (le_decides v k).1 (omega (arith, ints, h, m.0)))

to_high : (hi : Option ℤ) (v : ℤ) → v <ℤ pos 0 → is_at_most v hi ≡ true → v ≤ℤ below_zero hi
to_high None v h t = omega (arith, ints, h)
to_high (Some k) v h t = (min-bounds k).2 v ((le_decides v k).0 t) (omega (arith, ints, h))

at_most-lower : (hi : Option ℤ) (u v : ℤ) → v ≤ℤ u → is_at_most u hi ≡ true → is_at_most v hi ≡ true
at_most-lower None u v le t = refl
at_most-lower (Some k) u v le t = (le_decides v k).1 (omega (arith, ints, le, (le_decides u k).0 t))

at_least-higher : (lo : Option ℤ) (u v : ℤ) → u ≤ℤ v → is_at_least u lo ≡ true → is_at_least v lo ≡ true
at_least-higher None u v le t = refl
at_least-higher (Some k) u v le t = (le_decides k v).1 (omega (arith, ints, le, (le_decides k u).0 t))

pub when-sound : (p : ℤ → Bool) (b : Bool) (v : ℤ) → (b ≡ true → p v ≡ true) → list_all p (when b v) ≡ true
when-sound p true v h = both (p v) true (h refl) refl
when-sound p false v h = refl

pub when-near : (b : Bool) (u v : ℤ) → b ≡ true → rank v ≤ rank u → list_any (λ w. nat_le (rank w) (rank u)) (when b v) ≡ true
when-near true u v h le = or_left (nat_le (rank v) (rank u)) false (le_is (rank v) (rank u) le)
when-near false u v h le = absurd (cc)

-- the numbers of the class r modulo m between the bounds: two of them are candidates
pub between-candidates : (p : ℤ → Bool) (m r : ℤ) (lo hi : Option ℤ) → pos 0 <ℤ m → ((v : ℤ) → (p v ≡ true) ↔ IsBetween m r lo hi v) → AreCandidates p (between m r lo hi)
between-candidates p m r lo hi h is =
    let up : ℤ = upward m r lo in
    let down : ℤ = downward m r hi in
    let from = from_low lo up (least_from-bound m r (not_below_zero lo) h) in
    let to = from_high hi down (greatest_to-bound m r (below_zero hi) h) in
    record {
      sound = list_all-append p (when (is_at_most up hi) up) (when (is_at_least down lo) down) ∙ both _ _
          (when-sound p (is_at_most up hi) up (λ t. (is up).1 (record { congruent = least_from-congruent m r (not_below_zero lo) h; low = from.1; high = t })))
          (when-sound p (is_at_least down lo) down (λ t. (is down).1 (record { congruent = greatest_to-congruent m r (below_zero hi) h; low = t; high = to.1 })));
      near = λ u t. list_any-append (λ w. nat_le (rank w) (rank u)) (when (is_at_most up hi) up) (when (is_at_least down lo) down) ∙ by_lt_z u (pos 0)
          (λ less. let b : IsBetween m r lo hi u = (is u).0 t in
          let le : u ≤ℤ down = greatest_to-greatest m r (below_zero hi) u h (to_high hi u less b.high) b.congruent in
          or_right (list_any (λ w. nat_le (rank w) (rank u)) (when (is_at_most up hi) up)) _ (when-near (is_at_least down lo) u down (at_least-higher lo u down le b.low) (rank-down u down to.0 le)))
          (λ more. let b : IsBetween m r lo hi u = (is u).0 t in
          let le : up ≤ℤ u = least_from-least m r (not_below_zero lo) u h (to_low lo u more b.low) b.congruent in
          or_left _ _ (when-near (is_at_most up hi) u up (at_most-lower hi u up le b.high) (rank-up u up from.0 le)));
    }

-- ---- in words
pub nearer-is : (u v : ℤ) → (rank u < rank v) ↔ IsNearer u v
nearer-is u v = (rank-nearer u v, nearer-rank u v)

pub nearest-none_nearer : (p : ℤ → Bool) (vs : List ℤ) (u : ℤ) → AreCandidates p vs → p u ≡ true → (p (nearest vs) ≡ true) × (¬ (IsNearer u (nearest vs)))
nearest-none_nearer p vs u h t = let b = nearest-best p vs u h t in (b.0, λ k. let r = nearer-rank u (nearest vs) k in let s = b.1 in omega (arith, r, s))
