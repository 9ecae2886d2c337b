-- Lists filtered, mapped and chained: what holds of all or of some of their elements.
use Rattle.std.proofs.Common.{◌≡◌, ◌<◌, ◌+◌, ℕ, zero, suc, Bool, true, false, cond, ◌&&◌, ◌||◌, List, [], ◌∷◌, map, filter, length, get_or, refl, sym, ◌∙◌, ap, arith}
use Rattle.std.specs.Prelude.{All, ◌⊎◌}
use Rattle.std.specs.List.{list_all, list_any, flat_map}
use Rattle.std.proofs.lemmas.List.Folds.{list_all-append, list_any-append}
use Rattle.std.proofs.lemmas.List.Elements.{All-append, All-nil, All-cons, All-head, All-tail}
use mathlib.Core.Logic.{inl, inr}
use Rattle.clause_set.specs.Divisibilities.{numbers_from}

filter-head : {X : Type 0} (P : X → Type 0) (b : Bool) (x : X) (xs : List X) → b ≡ true → All P (cond b (x ∷ xs) xs) → P x
filter-head P true x xs t h = All-head P x xs h
filter-head P false x xs t h = absurd (cc)

filter-tail : {X : Type 0} (P : X → Type 0) (b : Bool) (x : X) (xs : List X) → All P (cond b (x ∷ xs) xs) → All P xs
filter-tail P true x xs h = All-tail P x xs h
filter-tail P false x xs h = h

-- where each element passes one of three tests, what holds of those that pass them holds of all
pub all_of_three : {X : Type 0} (P : X → Type 0) (p q r : X → Bool) (xs : List X) → All (λ x. (p x ≡ true) ⊎ ((q x ≡ true) ⊎ (r x ≡ true))) xs
    → All P (filter p xs) → All P (filter q xs) → All P (filter r xs) → All P xs
all_of_three P p q r [] each f g h = All-nil P
all_of_three P p q r (x ∷ xs) each f g h =
    All-cons P x xs (here (All-head (λ y. (p y ≡ true) ⊎ ((q y ≡ true) ⊎ (r y ≡ true))) x xs each))
    (all_of_three P p q r xs (All-tail (λ y. (p y ≡ true) ⊎ ((q y ≡ true) ⊎ (r y ≡ true))) x xs each)
    (filter-tail P (p x) x (filter p xs) f) (filter-tail P (q x) x (filter q xs) g) (filter-tail P (r x) x (filter r xs) h))
  where
    here : (p x ≡ true) ⊎ ((q x ≡ true) ⊎ (r x ≡ true)) → P x
    here (inl t) = filter-head P (p x) x (filter p xs) t f
    here (inr (inl t)) = filter-head P (q x) x (filter q xs) t g
    here (inr (inr t)) = filter-head P (r x) x (filter r xs) t h

pub all-unmap : {X Y : Type 0} (P : X → Type 0) (f : Y → X) (ys : List Y) → All P (map f ys) → All (λ y. P (f y)) ys
all-unmap P f [] h = All-nil (λ y. P (f y))
all-unmap P f (y ∷ ys) h = All-cons (λ z. P (f z)) y ys (All-head P (f y) (map f ys) h) (all-unmap P f ys (All-tail P (f y) (map f ys) h))

or_parts : (a b : Bool) → (a || b) ≡ false → (a ≡ false) × (b ≡ false)
or_parts true b h = absurd (cc)
or_parts false b h = (refl, h)

-- where no element passes, none is left
pub filter-none : {X : Type 0} (p : X → Bool) (xs : List X) → list_any p xs ≡ false → filter p xs ≡ []
filter-none p [] h = refl
filter-none p (x ∷ xs) h =
    let parts = or_parts (p x) (list_any p xs) h in
    ap (λ b. cond b (x ∷ filter p xs) (filter p xs)) parts.0 ∙ filter-none p xs parts.1

pub list_all-flat_map : {X Y : Type 0} (p : Y → Bool) (f : X → List Y) (xs : List X) → list_all p (flat_map f xs) ≡ list_all (λ x. list_all p (f x)) xs
list_all-flat_map p f [] = refl
list_all-flat_map p f (x ∷ xs) = list_all-append p (f x) (flat_map f xs) ∙ ap (λ b. list_all p (f x) && b) (list_all-flat_map p f xs)

pub list_any-flat_map : {X Y : Type 0} (p : Y → Bool) (f : X → List Y) (xs : List X) → list_any p (flat_map f xs) ≡ list_any (λ x. list_any p (f x)) xs
list_any-flat_map p f [] = refl
list_any-flat_map p f (x ∷ xs) = list_any-append p (f x) (flat_map f xs) ∙ ap (λ b. list_any p (f x) || b) (list_any-flat_map p f xs)

pub list_any-map : {X Y : Type 0} (p : Y → Bool) (f : X → Y) (xs : List X) → list_any p (map f xs) ≡ list_any (λ x. p (f x)) xs
list_any-map p f [] = refl
list_any-map p f (x ∷ xs) = ap (λ b. p (f x) || b) (list_any-map p f xs)

-- ---- some element
or_left : (a b : Bool) → a ≡ true → (a || b) ≡ true
or_left true b h = refl
or_left false b h = absurd (cc)

or_right : (a b : Bool) → b ≡ true → (a || b) ≡ true
or_right true b h = refl
or_right false b h = h

pub by_either : (a b : Bool) (T : Type 0) → (a || b) ≡ true → (a ≡ true → T) → (b ≡ true → T) → T
by_either true b T h f g = f refl
by_either false b T h f g = g h

pub any_gives : {X : Type 0} (p : X → Bool) (T : Type 0) (xs : List X) → All (λ x. p x ≡ true → T) xs → list_any p xs ≡ true → T
any_gives p T [] f h = absurd (cc)
any_gives p T (x ∷ xs) f h =
    by_either (p x) (list_any p xs) T h (All-head (λ y. p y ≡ true → T) x xs f) (any_gives p T xs (All-tail (λ y. p y ≡ true → T) x xs f))

-- an element of the images of ys has a source that passes the test
pub any_source : {X Y : Type 0} (f : Y → X) (Q : Y → Type 0) (p : Y → Bool) (b : X) → ((y : Y) → Q y → f y ≡ b → p y ≡ true)
    → (ys : List Y) → All Q ys → (k : ℕ) → k < length (map f ys) → get_or (map f ys) k b ≡ b → list_any p ys ≡ true
any_source f Q p b passes [] all k lt e = absurd (omega arith)
any_source f Q p b passes (y ∷ ys) all zero lt e = or_left (p y) (list_any p ys) (passes y (All-head Q y ys all) e)
any_source f Q p b passes (y ∷ ys) all (suc k) lt e = or_right (p y) (list_any p ys) (any_source f Q p b passes ys (All-tail Q y ys all) k (omega arith) e)

-- k + d is among the m numbers from k on, where d is below m
pub any_number : (q : ℕ → Bool) (k d m : ℕ) → d < m → q (k + d) ≡ true → list_any q (numbers_from k m) ≡ true
any_number q k d zero lt h = absurd (omega arith)
any_number q k zero (suc m) lt h = or_left (q k) (list_any q (numbers_from (suc k) m)) (let same : k + 0 ≡ k = omega arith in sym (ap q same) ∙ h)
any_number q k (suc d) (suc m) lt h =
    or_right (q k) (list_any q (numbers_from (suc k) m)) (any_number q (suc k) d m (omega arith) (let same : k + suc d ≡ suc k + d = omega arith in sym (ap q same) ∙ h))

-- what holds of each part holds of all
pub All-flat_map : {X Y : Type 0} (P : Y → Type 0) (f : X → List Y) → (xs : List X) → All (λ x. All P (f x)) xs → All P (flat_map f xs)
All-flat_map P f [] h = All-nil P
All-flat_map P f (x ∷ xs) h = All-append P (f x) (flat_map f xs) (h 0 x (omega arith)) (All-flat_map P f xs (λ k d lt. h (suc k) d (omega arith)))
