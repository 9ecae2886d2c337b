-- Clauses with one literal apart, and each literal in another's place.
use Rattle.std.proofs.Common.{◌≡◌, ◌+◌, ℕ, zero, suc, Bool, true, false, ◌&&◌, ◌||◌, cond, List, [], ◌∷◌, ◌++◌, map, Some, refl, sym, ◌∙◌, ap, subst, arith}
use Rattle.std.specs.Prelude.{remove, slice_get, slice_set, count_by}
use Rattle.std.proofs.lemmas.List.Sums.{sum_by-cons}
use Rattle.std.specs.List.{list_all, list_any, flat_map, AllByRecursion}
use Rattle.std.proofs.lemmas.List.{append-nil}
use Rattle.base_budget.specs.Trace.{Traced, each}
use Rattle.base_budget.proofs.Tracing.{each-value}

-- where each step leaves one element
pub each-map : {C D : Type 0} (f : C → Traced (List D)) (g : C → D) → ((c : C) → (f c).value ≡ g c ∷ []) → (cs : List C) → (each f cs []).value ≡ map g cs
each-map f g h cs = each-value f cs [] ∙ along cs
  where
    along : (cs : List _) → flat_map (λ c. (f c).value) cs ≡ map g cs
    along [] = refl
    along (c ∷ cs) = ap (λ ds. ds ++ flat_map (λ d. (f d).value) cs) (h c) ∙ ap (λ ds. g c ∷ ds) (along cs)

and_swap : (a b c : Bool) → (a && (b && c)) ≡ (b && (a && c))
and_swap true b c = refl
and_swap false true c = refl
and_swap false false c = refl

-- all pass where the i-th does and the others do
pub all-apart : {X : Type 0} (p : X → Bool) (xs : List X) (i : ℕ) (x : X) → slice_get xs i ≡ Some x → list_all p xs ≡ (p x && list_all p (remove xs i))
all-apart p [] i x e = absurd (cc)
all-apart p (y ∷ ys) zero x e = let same : y ≡ x = cc in ap (λ z. p z && list_all p ys) same
all-apart p (y ∷ ys) (suc i) x e = ap (λ b. p y && b) (all-apart p ys i x e) ∙ and_swap (p y) (p x) (list_all p (remove ys i))

-- so it is with another one in its place
pub all-replaced : {X : Type 0} (p : X → Bool) (xs : List X) (i : ℕ) (x z : X) → slice_get xs i ≡ Some x → list_all p (slice_set xs i z) ≡ (p z && list_all p (remove xs i))
all-replaced p [] i x z e = absurd (cc)
all-replaced p (y ∷ ys) zero x z e = refl
all-replaced p (y ∷ ys) (suc i) x z e = ap (λ b. p y && b) (all-replaced p ys i x z e) ∙ and_swap (p y) (p z) (list_all p (remove ys i))

-- elements in place of others: all of them pass q where all the others pass p
pub all-mapped : {X Y : Type 0} (P : X → Type 0) (p : X → Bool) (q : Y → Bool) (f : X → Y) → ((x : X) → P x → q (f x) ≡ p x)
    → (xs : List X) → AllByRecursion P xs → list_all q (map f xs) ≡ list_all p xs
all-mapped P p q f h [] a = refl
all-mapped P p q f h (x ∷ xs) a = ap (λ b. b && list_all q (map f xs)) (h x a.0) ∙ ap (λ b. p x && b) (all-mapped P p q f h xs a.1)

pub kept-mapped : {X Y : Type 0} (P : X → Type 0) (Q : Y → Type 0) (f : X → Y) → ((x : X) → P x → Q (f x)) → (xs : List X) → AllByRecursion P xs → AllByRecursion Q (map f xs)
kept-mapped P Q f h [] a = tt
kept-mapped P Q f h (x ∷ xs) a = (h x a.0, kept-mapped P Q f h xs a.1)

pub kept-removed : {X : Type 0} (P : X → Type 0) (xs : List X) (i : ℕ) → AllByRecursion P xs → AllByRecursion P (remove xs i)
kept-removed P [] zero a = tt
kept-removed P [] (suc i) a = tt
kept-removed P (x ∷ xs) zero a = a.1
kept-removed P (x ∷ xs) (suc i) a = (a.0, kept-removed P xs i a.1)

pub kept-got : {X : Type 0} (P : X → Type 0) (xs : List X) (i : ℕ) (x : X) → slice_get xs i ≡ Some x → AllByRecursion P xs → P x
kept-got P [] i x e a = absurd (cc)
kept-got P (y ∷ ys) zero x e a = let same : y ≡ x = cc in subst P same a.0
kept-got P (y ∷ ys) (suc i) x e a = kept-got P ys i x e a.1

pub and_left : (a b : Bool) → (a && b) ≡ true → a ≡ true
and_left true b e = refl
and_left false b e = absurd (cc)

pub and_right : (a b : Bool) → (a && b) ≡ true → b ≡ true
and_right true b e = e
and_right false b e = absurd (cc)

pub and_both : (a b : Bool) → a ≡ true → b ≡ true → (a && b) ≡ true
and_both true b e f = f
and_both false b e f = absurd (cc)

-- a disjunction of one
pub or_false : (b : Bool) → (b || false) ≡ true → b ≡ true
or_false true e = refl
or_false false e = e

pub true_or : (b : Bool) → b ≡ true → (b || false) ≡ true
true_or true e = refl
true_or false e = e

-- ---- counts
pub count-apart : {X : Type 0} (p : X → Bool) (xs : List X) (i : ℕ) (x : X) → slice_get xs i ≡ Some x → count_by p xs ≡ cond (p x) 1 0 + count_by p (remove xs i)
count-apart p [] i x e = absurd (cc)
count-apart p (y ∷ ys) zero x e = let same : y ≡ x = cc in sum_by-cons (λ z. cond (p z) 1 0) y ys ∙ ap (λ z. cond (p z) 1 0 + count_by p ys) same
count-apart p (y ∷ ys) (suc i) x e =
    let rest = count-apart p ys i x e in
    omega (arith, rest, sum_by-cons (λ z. cond (p z) 1 0) y ys, sum_by-cons (λ z. cond (p z) 1 0) y (remove ys i))

pub count-replaced : {X : Type 0} (p : X → Bool) (xs : List X) (i : ℕ) (x z : X) → slice_get xs i ≡ Some x → count_by p (slice_set xs i z) ≡ cond (p z) 1 0 + count_by p (remove xs i)
count-replaced p [] i x z e = absurd (cc)
count-replaced p (y ∷ ys) zero x z e = sum_by-cons (λ w. cond (p w) 1 0) z ys
count-replaced p (y ∷ ys) (suc i) x z e =
    let rest = count-replaced p ys i x z e in
    omega (arith, rest, sum_by-cons (λ w. cond (p w) 1 0) y (slice_set ys i z), sum_by-cons (λ w. cond (p w) 1 0) y (remove ys i))

count_none_step : (b : Bool) (n : ℕ) → cond b 1 0 + n ≡ 0 → (b ≡ false) × (n ≡ 0)
count_none_step true n e = absurd (omega arith)
count_none_step false n e = (refl, omega arith)

pub count-none : {X : Type 0} (p : X → Bool) (xs : List X) → count_by p xs ≡ 0 → AllByRecursion (λ x. p x ≡ false) xs
count-none p [] e = tt
count-none p (x ∷ xs) e =
    let parts = count_none_step (p x) (count_by p xs) (sym (sum_by-cons (λ z. cond (p z) 1 0) x xs) ∙ e) in (parts.0, count-none p xs parts.1)

pub none-count : {X : Type 0} (p : X → Bool) (xs : List X) → AllByRecursion (λ x. p x ≡ false) xs → count_by p xs ≡ 0
none-count p [] h = refl
none-count p (x ∷ xs) h = sum_by-cons (λ z. cond (p z) 1 0) x xs ∙ ap (λ b. cond b 1 0 + count_by p xs) h.0 ∙ omega (arith, none-count p xs h.1)

or_none : (a b : Bool) → (a || b) ≡ false → (a ≡ false) × (b ≡ false)
or_none true b h = absurd (cc)
or_none false b h = (refl, h)

pub any-none : {X : Type 0} (p : X → Bool) (xs : List X) → list_any p xs ≡ false → AllByRecursion (λ x. p x ≡ false) xs
any-none p [] h = tt
any-none p (x ∷ xs) h = let parts = or_none (p x) (list_any p xs) h in (parts.0, any-none p xs parts.1)

pub none-any : {X : Type 0} (p : X → Bool) (xs : List X) → AllByRecursion (λ x. p x ≡ false) xs → list_any p xs ≡ false
none-any p [] h = refl
none-any p (x ∷ xs) h = ap (λ b. b || list_any p xs) h.0 ∙ none-any p xs h.1

or_true : (a b : Bool) → b ≡ true → (a || b) ≡ true
or_true true b h = refl
or_true false b h = h

pub any-got : {X : Type 0} (p : X → Bool) (xs : List X) (i : ℕ) (x : X) → slice_get xs i ≡ Some x → p x ≡ true → list_any p xs ≡ true
any-got p [] i x e h = absurd (cc)
any-got p (y ∷ ys) zero x e h = let same : y ≡ x = cc in ap (λ b. b || list_any p ys) (ap p same ∙ h)
any-got p (y ∷ ys) (suc i) x e h = or_true (p y) (list_any p ys) (any-got p ys i x e h)

pub kept-replaced : {X : Type 0} (P : X → Type 0) (xs : List X) (i : ℕ) (z : X) → P z → AllByRecursion P xs → AllByRecursion P (slice_set xs i z)
kept-replaced P [] i z h a = tt
kept-replaced P (x ∷ xs) zero z h a = (h, a.1)
kept-replaced P (x ∷ xs) (suc i) z h a = (a.0, kept-replaced P xs i z h a.1)

pub kept-weaker : {X : Type 0} (P Q : X → Type 0) → ((x : X) → P x → Q x) → (xs : List X) → AllByRecursion P xs → AllByRecursion Q xs
kept-weaker P Q f [] a = tt
kept-weaker P Q f (x ∷ xs) a = (f x a.0, kept-weaker P Q f xs a.1)
