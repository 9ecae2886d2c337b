-- Symbols with one more.
use Rattle.std.proofs.Common.{◌≡◌, ℕ, zero, suc, ◌+◌, ◌<◌, ◌≤◌, Bool, true, false, ◌||◌, ◌&&◌, not, cond, List, [], ◌∷◌, ◌++◌, length, Option, Some, None, refl, sym, ap, ◌∙◌, nat_eq, nat_lt, position, slice_get, get_or, if◌then◌else◌, arith}
use Rattle.std.specs.List.{prefix_len}
use Rattle.base_texts.specs.Texts.{is_text, is_among}
use Rattle.smt_terms.specs.Operators.{found}
use Rattle.smt_names.specs.Symbols.{paired}

-- texts that are the same
pub text_same : (t u : List ℕ) → is_text t u ≡ true → t ≡ u
text_same [] [] e = refl
text_same [] (c ∷ u) e = absurd cc
text_same (b ∷ t) [] e = absurd cc
text_same (b ∷ t) (c ∷ u) e = by (nat_eq b c) refl e (text_same t u)
  where
    join : b ≡ c → t ≡ u → (b ∷ t) ≡ (c ∷ u)
    join h k = ap (λ z. z ∷ t) h ∙ ap (λ z. c ∷ z) k

    by : (r : Bool) → nat_eq b c ≡ r → (r && is_text t u) ≡ true → (is_text t u ≡ true → t ≡ u) → (b ∷ t) ≡ (c ∷ u)
    by true h k l = join (grind (arith, h)) (l k)
    by false h k l = absurd cc

-- what stands at a place, if there is one
abbrev pub at_place : {A : Type 0} → List A → Option ℕ → Option A
at_place xs None = None
at_place xs (Some i) = slice_get xs i

-- the place of a text from its place in the rest of the list
found_at : {A : Type 0} (t : List ℕ) (k n : ℕ) (y : A) (ys : List A) → at_place (y ∷ ys) (if nat_lt (1 + k) (suc n) then Some (1 + k) else None) ≡ at_place ys (if nat_lt k n then Some k else None)
found_at t k n y ys = ap (λ z. at_place (y ∷ ys) (if z then Some (1 + k) else None)) less ∙ by (nat_lt k n)
  where
    less : nat_lt (1 + k) (suc n) ≡ nat_lt k n
    less = grind arith

    next : 1 + k ≡ suc k
    next = omega arith

    by : (b : Bool) → at_place (y ∷ ys) (if b then Some (1 + k) else None) ≡ at_place ys (if b then Some k else None)
    by true = ap (λ j. slice_get (y ∷ ys) j) next
    by false = refl

pub found-place : {A : Type 0} (t : List ℕ) (ts : List (List ℕ)) (xs : List A) → found t (paired ts xs) ≡ at_place xs (position (is_text t) ts)
found-place t [] xs = refl
found-place t (u ∷ ts) [] = none (position (is_text t) (u ∷ ts))
  where
    none : {A : Type 0} (r : Option ℕ) → None ≡ at_place {A = A} [] r
    none None = refl
    none (Some i) = refl
found-place t (u ∷ ts) (x ∷ xs) = by (is_text t u) (found-place t ts xs)
  where
    k : ℕ
    k = prefix_len (λ z. not (is_text t z)) ts

    first : nat_lt 0 (suc (length ts)) ≡ true
    first = grind arith

    by : (b : Bool) → found t (paired ts xs) ≡ at_place xs (position (is_text t) ts)
        → (if b then Some x else found t (paired ts xs)) ≡ at_place (x ∷ xs) (if nat_lt (cond (not b) (1 + k) 0) (suc (length ts)) then Some (cond (not b) (1 + k) 0) else None)
    by true h = sym (ap (λ z. at_place (x ∷ xs) (if z then Some 0 else None)) first)
    by false h = h ∙ sym (found_at t k (length ts) x xs)

pub got : {A : Type 0} (xs : List A) (i : ℕ) (x : A) → i < length xs → x ≡ get_or xs i x → Some x ≡ slice_get xs i
got [] i x h is = absurd (omega arith)
got (y ∷ xs) zero x h is = ap Some is
got (y ∷ xs) (suc i) x h is = got xs i x (omega arith) is

pub got-none : {A : Type 0} (xs : List A) (i : ℕ) → length xs ≤ i → None ≡ slice_get xs i
got-none [] i h = refl
got-none (y ∷ xs) zero h = absurd (omega arith)
got-none (y ∷ xs) (suc i) h = got-none xs i (omega arith)

-- one symbol more, which is not among them
missing : {A : Type 0} (t x : List ℕ) (ts : List (List ℕ)) (ms : List A) → t ≡ x → is_among x ts ≡ false → found t (paired ts ms) ≡ None
missing t x [] ms same h = refl
missing t x (u ∷ ts) [] same h = refl
missing {A} t x (u ∷ ts) (m ∷ ms) same h = ap (λ z. if is_text z u then Some m else found t (paired ts ms)) same ∙ by (is_text x u) h (missing t x ts ms same)
  where
    by : (b : Bool) → (b || is_among x ts) ≡ false → (is_among x ts ≡ false → found t (paired ts ms) ≡ None) → (if b then Some m else found t (paired ts ms)) ≡ None
    by true k l = absurd (let bad : true ≡ false = k in cc)
    by false k l = l k

found-more : {A : Type 0} (t x : List ℕ) (m : A) (ts : List (List ℕ)) (ms : List A) → length ts ≡ length ms → is_text t x ≡ false → found t (paired (ts ++ x ∷ []) (ms ++ m ∷ [])) ≡ found t (paired ts ms)
found-more t x m [] [] h other = ap (λ z. if z then Some m else None) other
found-more t x m [] (n ∷ ms) h other = absurd (omega (arith, h))
found-more t x m (u ∷ ts) [] h other = absurd (omega (arith, h))
found-more t x m (u ∷ ts) (n ∷ ms) h other = ap (λ z. if is_text t u then Some n else z) (found-more t x m ts ms (omega (arith, h)) other)

found-new : {A : Type 0} (t x : List ℕ) (m : A) (ts : List (List ℕ)) (ms : List A) → length ts ≡ length ms → is_text t x ≡ true → found t (paired ts ms) ≡ None
    → found t (paired (ts ++ x ∷ []) (ms ++ m ∷ [])) ≡ Some m
found-new t x m [] [] h same none = ap (λ z. if z then Some m else None) same
found-new t x m [] (n ∷ ms) h same none = absurd (omega (arith, h))
found-new t x m (u ∷ ts) [] h same none = absurd (omega (arith, h))
found-new {A} t x m (u ∷ ts) (n ∷ ms) h same none = by (is_text t u) none (found-new t x m ts ms (omega (arith, h)) same)
  where
    by : (b : Bool) → (if b then Some n else found t (paired ts ms)) ≡ None → (found t (paired ts ms) ≡ None → found t (paired (ts ++ x ∷ []) (ms ++ m ∷ [])) ≡ Some m)
        → (if b then Some n else found t (paired (ts ++ x ∷ []) (ms ++ m ∷ []))) ≡ Some m
    by true k l = absurd (let bad : Some n ≡ None = k in cc)
    by false k l = l k

-- what a text is, with one symbol more
pub with-symbol : {A : Type 0} (t x : List ℕ) (m : A) (ts : List (List ℕ)) (ms : List A) → length ts ≡ length ms → is_among x ts ≡ false
    → found t (paired (ts ++ x ∷ []) (ms ++ m ∷ [])) ≡ (if is_text t x then Some m else found t (paired ts ms))
with-symbol {A} t x m ts ms h new = by (is_text t x) refl
  where
    by : (b : Bool) → is_text t x ≡ b → found t (paired (ts ++ x ∷ []) (ms ++ m ∷ [])) ≡ (if b then Some m else found t (paired ts ms))
    by true e = found-new t x m ts ms h e (missing t x ts ms (text_same t x e) new)
    by false e = found-more t x m ts ms h e
