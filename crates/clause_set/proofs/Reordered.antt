-- The form of a conjunction does not depend on the order of its literals, nor on how often one stands in it.
use Rattle.std.proofs.Common.{◌≡◌, ℕ, ℤ, ◌≤ℤ◌, Bool, true, cond, List, [], ◌∷◌, map, Option, Some, None, inl, inr, refl, sym, ◌∙◌, ap, subst, arith}
use Rattle.std.specs.Cmp.{both_ways}
use Rattle.std.specs.List.{list_any}
use Rattle.std.proofs.lemmas.Int.{ints}
use Rattle.clause_set.specs.declared.literal.Literal.{Literal}
use Rattle.clause_set.specs.declared.literal.Literal.TheVariants.{Eq, Geq, Div, NDiv}
use Rattle.clause_set.specs.Normal.{negated, turned}
use Rattle.clause_set.specs.Order.{literal_cmp, sorted_once}
use Rattle.clause_set.specs.Clauses.{slack, bounds_apart, is_negative, is_zero, is_void, with_constant, tightened, compact}
use Rattle.clause_set.proofs.ClauseTruth.{AtMost}
use Rattle.clause_set.proofs.Covers.{Among, any_from, any_with, slack-at, slack-witness}
use Rattle.clause_set.proofs.Orders.{literal_cmp-equal}
use Rattle.clause_set.proofs.Putting.{among_sorted, sorted_among}
use Rattle.clause_set.proofs.Sorted.{literal_cmp-total, sorted_once-sorted, sorted-same}

pub same_least : (a b : Option ℤ) → ((k : ℤ) → a ≡ Some k → AtMost b k) → ((k : ℤ) → b ≡ Some k → AtMost a k) → a ≡ b
same_least None None f g = refl
same_least None (Some k) f g = absurd (g k refl)
same_least (Some j) None f g = absurd (f j refl)
same_least (Some j) (Some k) f g =
    let low : k ≤ℤ j = f j refl in
    let high : j ≤ℤ k = g k refl in
    ap Some (let e : j ≡ k = omega (arith, ints, low, high) in e)

pub bounded_by : (xs ys : List Literal) → ((l : Literal) → Among l xs → Among l ys) → (q : List (ℕ × ℤ)) (k : ℤ) → slack xs q ≡ Some k → AtMost (slack ys q) k
bounded_by xs ys f q k e = let w = slack-witness xs q k e in slack-at w.literal ys q k (f w.literal w.among) w.is

module _ (xs ys : List Literal) (f : (l : Literal) → Among l xs → Among l ys) (g : (l : Literal) → Among l ys → Among l xs) where
  same_slack : slack xs ≡ slack ys
  same_slack = λ i. λ q. same_least (slack xs q) (slack ys q) (bounded_by xs ys f q) (bounded_by ys xs g q) i

  same_void : (l : Literal) → is_void xs l ≡ is_void ys l
  same_void (Eq t) = ap (λ s. is_negative (bounds_apart (s t.pairs) (s (negated t.pairs)))) same_slack
  same_void (Geq t) = ap (λ s. is_negative (bounds_apart (s t.pairs) (s (negated t.pairs)))) same_slack
  same_void (Div d t) = refl
  same_void (NDiv d t) = refl

  same_tight : (l : Literal) → tightened xs l ≡ tightened ys l
  same_tight (Eq t) = refl
  same_tight (Geq t) =
      ap (λ s. cond (is_zero (bounds_apart (s t.pairs) (s (negated t.pairs)))) (Eq (turned (with_constant (s t.pairs) t))) (Geq (with_constant (s t.pairs) t))) same_slack
  same_tight (Div d t) = refl
  same_tight (NDiv d t) = refl

pub any_kept : (p q : Literal → Bool) (xs ys : List Literal) → ((l : Literal) → p l ≡ q l) → ((l : Literal) → Among l xs → Among l ys) → list_any p xs ≡ true → list_any q ys ≡ true
any_kept p q xs ys same f h = let w = any_from p xs h in any_with q w.element ys (f w.element w.among) (sym (same w.element) ∙ w.passes)

pub among_map : {X Y : Type 0} (h : X → Y) (x : X) (xs : List X) → Among x xs → Among (h x) (map h xs)
among_map h x [] m = absurd m
among_map h x (y ∷ ys) (inl e) = inl (ap h e)
among_map h x (y ∷ ys) (inr m) = inr (among_map h x ys m)

map_kept : {X Y : Type 0} (h k : X → Y) (xs ys : List X) (z : Y) → ((x : X) → h x ≡ k x) → ((x : X) → Among x xs → Among x ys) → Among z (map h xs) → Among z (map k ys)
map_kept h k [] ys z same f m = absurd m
map_kept h k (x ∷ xs) ys z same f (inl e) = subst (λ w. Among w (map k ys)) (sym (e ∙ same x)) (among_map k x ys (f x (inl refl)))
map_kept h k (x ∷ xs) ys z same f (inr m) = map_kept h k xs ys z same (λ y a. f y (inr a)) m

pub same_sorted : (us vs : List Literal) → ((z : Literal) → Among z us → Among z vs) → ((z : Literal) → Among z vs → Among z us) → sorted_once literal_cmp us ≡ sorted_once literal_cmp vs
same_sorted us vs f g =
    sorted-same literal_cmp literal_cmp-total (sorted_once literal_cmp us) (sorted_once literal_cmp vs) (sorted_once-sorted literal_cmp literal_cmp-total us) (sorted_once-sorted literal_cmp literal_cmp-total vs)
    (λ z m. among_sorted literal_cmp literal_cmp-equal z vs (f z (sorted_among literal_cmp z us m)))
    (λ z m. among_sorted literal_cmp literal_cmp-equal z us (g z (sorted_among literal_cmp z vs m)))

pub compact-same : (xs ys : List Literal) → ((l : Literal) → Among l xs → Among l ys) → ((l : Literal) → Among l ys → Among l xs) → compact xs ≡ compact ys
unfolding compact
compact-same xs ys f g =
    let voids : list_any (is_void xs) xs ≡ list_any (is_void ys) ys =
    both_ways (list_any (is_void xs) xs) (list_any (is_void ys) ys)
    (any_kept (is_void xs) (is_void ys) xs ys (same_void xs ys f g) f)
    (any_kept (is_void ys) (is_void xs) ys xs (same_void ys xs g f) g) in
    let sorts =
    same_sorted (map (tightened xs) xs) (map (tightened ys) ys)
    (λ z. map_kept (tightened xs) (tightened ys) xs ys z (same_tight xs ys f g) f)
    (λ z. map_kept (tightened ys) (tightened xs) ys xs z (same_tight ys xs g f) g) in
    ap (λ b. cond b None (Some (sorted_once literal_cmp (map (tightened xs) xs)))) voids
    ∙ ap (λ z. cond (list_any (is_void ys) ys) None (Some z)) sorts

pub compact-sorted : (ls sorted : List Literal) → sorted ≡ sorted_once literal_cmp ls → compact sorted ≡ compact ls
compact-sorted ls sorted is =
    compact-same sorted ls
    (λ l m. sorted_among literal_cmp l ls (subst (Among l) is m))
    (λ l m. subst (Among l) (sym is) (among_sorted literal_cmp literal_cmp-equal l ls m))
