-- Loops over a list that test or change each item.
use Rattle.std.proofs.Common.{◌≡◌, ℕ, ◌+◌, ◌<◌, ◌≤◌, List, [], ◌∷◌, ◌++◌, map, take, drop, length, get_or, Bool, true, false, cond, ◌&&◌, ◌||◌, refl, sym, ◌∙◌, ap, append_assoc}
use Rattle.std.proofs.lemmas.List.{append-nil, map-append, take_all}
use Rattle.std.specs.List.{list_all, list_any, flat_map, filter}
use Rattle.linear_term.proofs.Totals.{by_test}
use Rattle.std.proofs.lemmas.Grind.{flat_map-append}
use Rattle.std.proofs.Math.ListN.{drop_of_length-le}
use Rattle.clause_set.proofs.Sorting.{take-item}
use Rattle.base_budget.proofs.Charging.{drop-item}

-- the items before i fail the test
pub record Fails {X : Type 0} (test : X → Bool) (xs : List X) (i : ℕ) : Type 0 where
  pub rest : list_any test (drop i xs) ≡ list_any test xs

pub fails_none : {X : Type 0} (test : X → Bool) (xs : List X) → Fails test xs 0
fails_none test xs = record { rest = refl }

pub fails_more : {X : Type 0} (test : X → Bool) (xs : List X) (i : ℕ) (x : X) → i < length xs → x ≡ get_or xs i x → test x ≡ false → Fails test xs i → Fails test xs (i + 1)
fails_more test xs i x lt is fails h = record {
  rest =
      sym (ap (λ z. list_any test z) (drop-item xs i x lt is) ∙ ap (λ b. b || list_any test (drop (i + 1) xs)) fails) ∙ h.rest;
}

pub passes_here : {X : Type 0} (test : X → Bool) (xs : List X) (i : ℕ) (x : X) → i < length xs → x ≡ get_or xs i x → test x ≡ true → Fails test xs i → list_any test xs ≡ true
passes_here test xs i x lt is passes h =
    sym h.rest ∙ ap (λ z. list_any test z) (drop-item xs i x lt is) ∙ ap (λ b. b || list_any test (drop (i + 1) xs)) passes

pub fails_all : {X : Type 0} (test : X → Bool) (xs : List X) (i : ℕ) → length xs ≤ i → Fails test xs i → list_any test xs ≡ false
fails_all test xs i le h = sym h.rest ∙ ap (λ z. list_any test z) (drop_of_length-le xs le)

-- out has the images of the items before i
pub record Maps {X Y : Type 0} (f : X → Y) (xs : List X) (i : ℕ) (out : List Y) : Type 0 where
  pub is : out ≡ map f (take i xs)

pub maps_none : {X Y : Type 0} (f : X → Y) (xs : List X) → Maps f xs 0 []
maps_none f xs = record { is = refl }

pub maps_more : {X Y : Type 0} (f : X → Y) (xs : List X) (i : ℕ) (x : X) (y : Y) (out new : List Y) → i < length xs → x ≡ get_or xs i x → y ≡ f x → new ≡ out ++ y ∷ [] → Maps f xs i out → Maps f xs (i + 1) new
maps_more f xs i x y out new lt is e pushed h = record {
  is =
      pushed ∙ ap (λ z. z ++ y ∷ []) h.is ∙ ap (λ z. map f (take i xs) ++ z ∷ []) e ∙ sym (ap (map f) (take-item xs i x lt is) ∙ map-append f (take i xs) (x ∷ []));
}

pub maps_all : {X Y : Type 0} (f : X → Y) (xs : List X) (i : ℕ) (out : List Y) → length xs ≤ i → Maps f xs i out → out ≡ map f xs
maps_all f xs i out le h = h.is ∙ ap (map f) (take_all i xs le)

-- out has the images of the items before i, one after the other
pub record FlatMaps {X Y : Type 0} (f : X → List Y) (xs : List X) (i : ℕ) (out : List Y) : Type 0 where
  pub is : out ≡ flat_map f (take i xs)

pub flat_maps_none : {X Y : Type 0} (f : X → List Y) (xs : List X) → FlatMaps f xs 0 []
flat_maps_none f xs = record { is = refl }

pub flat_maps_more : {X Y : Type 0} (f : X → List Y) (xs : List X) (i : ℕ) (x : X) (out new : List Y) → i < length xs → x ≡ get_or xs i x → new ≡ out ++ f x → FlatMaps f xs i out → FlatMaps f xs (i + 1) new
flat_maps_more f xs i x out new lt is pushed h = record {
  is =
      pushed ∙ ap (λ z. z ++ f x) h.is ∙ ap (λ z. flat_map f (take i xs) ++ z) (sym (append-nil (f x))) ∙ sym (ap (λ z. flat_map f z) (take-item xs i x lt is) ∙ flat_map-append f (take i xs) (x ∷ []));
}

pub flat_maps_all : {X Y : Type 0} (f : X → List Y) (xs : List X) (i : ℕ) (out : List Y) → length xs ≤ i → FlatMaps f xs i out → out ≡ flat_map f xs
flat_maps_all f xs i out le h = h.is ∙ ap (λ z. flat_map f z) (take_all i xs le)

-- out has the images of the items before i after the old ones
pub record PushesFlat {X Y : Type 0} (f : X → List Y) (xs : List X) (i : ℕ) (old out : List Y) : Type 0 where
  pub is : out ≡ old ++ flat_map f (take i xs)

pub pushes_flat_none : {X Y : Type 0} (f : X → List Y) (xs : List X) (old : List Y) → PushesFlat f xs 0 old old
pushes_flat_none f xs old = record { is = sym (append-nil old) }

pub pushes_flat_more : {X Y : Type 0} (f : X → List Y) (xs : List X) (i : ℕ) (x : X) (old out new : List Y) → i < length xs → x ≡ get_or xs i x → new ≡ out ++ f x → PushesFlat f xs i old out → PushesFlat f xs (i + 1) old new
pushes_flat_more f xs i x old out new lt is pushed h = record {
  is =
      pushed ∙ ap (λ z. z ++ f x) h.is ∙ append_assoc old (flat_map f (take i xs)) (f x)
      ∙ ap (λ z. old ++ z) (flat_maps_more f xs i x (flat_map f (take i xs)) (flat_map f (take i xs) ++ f x) lt is refl (record { is = refl })).is;
}

pub pushes_flat_all : {X Y : Type 0} (f : X → List Y) (xs : List X) (i : ℕ) (old out : List Y) → length xs ≤ i → PushesFlat f xs i old out → out ≡ old ++ flat_map f xs
pushes_flat_all f xs i old out le h = h.is ∙ ap (λ z. old ++ flat_map f z) (take_all i xs le)

-- the items before i pass the test
pub record Passes {X : Type 0} (test : X → Bool) (xs : List X) (i : ℕ) : Type 0 where
  pub rest : list_all test (drop i xs) ≡ list_all test xs

pub passes_none : {X : Type 0} (test : X → Bool) (xs : List X) → Passes test xs 0
passes_none test xs = record { rest = refl }

pub passes_more : {X : Type 0} (test : X → Bool) (xs : List X) (i : ℕ) (x : X) → i < length xs → x ≡ get_or xs i x → test x ≡ true → Passes test xs i → Passes test xs (i + 1)
passes_more test xs i x lt is passes h = record {
  rest =
      sym (ap (λ z. list_all test z) (drop-item xs i x lt is) ∙ ap (λ b. b && list_all test (drop (i + 1) xs)) passes) ∙ h.rest;
}

pub fails_here : {X : Type 0} (test : X → Bool) (xs : List X) (i : ℕ) (x : X) → i < length xs → x ≡ get_or xs i x → test x ≡ false → Passes test xs i → list_all test xs ≡ false
fails_here test xs i x lt is fails h =
    sym h.rest ∙ ap (λ z. list_all test z) (drop-item xs i x lt is) ∙ ap (λ b. b && list_all test (drop (i + 1) xs)) fails

pub passes_all : {X : Type 0} (test : X → Bool) (xs : List X) (i : ℕ) → length xs ≤ i → Passes test xs i → list_all test xs ≡ true
passes_all test xs i le h = sym h.rest ∙ ap (λ z. list_all test z) (drop_of_length-le xs le)

-- out has those of the items before i that pass the test
pub record Filters {X : Type 0} (test : X → Bool) (xs : List X) (i : ℕ) (out : List X) : Type 0 where
  pub is : out ++ filter test (drop i xs) ≡ filter test xs

pub filters_none : {X : Type 0} (test : X → Bool) (xs : List X) → Filters test xs 0 []
filters_none test xs = record { is = refl }

filter-cons : {X : Type 0} (test : X → Bool) (x : X) (xs : List X) → filter test (x ∷ xs) ≡ filter test (x ∷ []) ++ filter test xs
filter-cons test x xs =
    by_test (λ z. z ≡ cond (test x) (x ∷ []) [] ++ filter test xs) (test x) (x ∷ filter test xs) (filter test xs)
    (λ t. ap (λ b. cond b (x ∷ []) [] ++ filter test xs) (sym t))
    (λ t. ap (λ b. cond b (x ∷ []) [] ++ filter test xs) (sym t))

pub filters_more : {X : Type 0} (test : X → Bool) (xs : List X) (i : ℕ) (x : X) (out new : List X) → i < length xs → x ≡ get_or xs i x → new ≡ out ++ filter test (x ∷ []) → Filters test xs i out → Filters test xs (i + 1) new
filters_more test xs i x out new lt is pushed h = record {
  is =
      ap (λ z. z ++ filter test (drop (i + 1) xs)) pushed ∙ append_assoc out (filter test (x ∷ [])) (filter test (drop (i + 1) xs))
      ∙ ap (λ z. out ++ z) (sym (ap (λ z. filter test z) (drop-item xs i x lt is) ∙ filter-cons test x (drop (i + 1) xs))) ∙ h.is;
}

pub filters_all : {X : Type 0} (test : X → Bool) (xs : List X) (i : ℕ) (out : List X) → length xs ≤ i → Filters test xs i out → out ≡ filter test xs
filters_all test xs i out le h = sym (append-nil out) ∙ ap (λ z. out ++ filter test z) (sym (drop_of_length-le xs le)) ∙ h.is

pub ruleset filters = (filters_more, filters_all)

pub ruleset walks = (passes_more, fails_here, passes_all, fails_more, passes_here, fails_all, maps_more, maps_all, flat_maps_more, flat_maps_all, pushes_flat_none, pushes_flat_more, pushes_flat_all)

-- out has the items before i
pub record Copies {X : Type 0} (xs : List X) (i : ℕ) (out : List X) : Type 0 where
  pub is : out ≡ take i xs

pub copies_more : {X : Type 0} (xs : List X) (i : ℕ) (x y : X) (out new : List X) → i < length xs → x ≡ get_or xs i x → y ≡ x → new ≡ out ++ y ∷ [] → Copies xs i out → Copies xs (i + 1) new
copies_more xs i x y out new lt is e pushed h = record { is = pushed ∙ ap (λ z. z ++ y ∷ []) h.is ∙ ap (λ z. take i xs ++ z ∷ []) e ∙ sym (take-item xs i x lt is) }

pub copies_all : {X : Type 0} (xs : List X) (i : ℕ) (out : List X) → length xs ≤ i → Copies xs i out → out ≡ xs
copies_all xs i out le h = h.is ∙ take_all i xs le

pub ruleset copies = (copies_more, copies_all)
