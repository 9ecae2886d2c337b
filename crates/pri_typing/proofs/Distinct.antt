-- Texts that are listed once each, and their places.
use Rattle.std.proofs.Common.{◌≡◌, ℕ, zero, suc, ◌+◌, ◌<◌, Bool, true, false, ◌||◌, ◌&&◌, not, List, [], ◌∷◌, ◌++◌, map, length, get_or, nat_eq, refl, sym, ap, ◌∙◌, arith, if◌then◌else◌, Contains}
use Rattle.pri_reader.specs.declared.tree.Name.{Name}
use Rattle.base_texts.specs.Texts.{is_text, is_among, with_text, place}
use Rattle.pri_typing.specs.Typing.{distinct_from}
use Rattle.pri_typing.proofs.WellFormed.{AreAmong}

-- Texts that are the same.

pub text_self : (t : List ℕ) → is_text t t ≡ true
text_self [] = refl
text_self (b ∷ t) = by (nat_eq b b) refl (text_self t)
  where
    by : (r : Bool) → nat_eq b b ≡ r → is_text t t ≡ true → (nat_eq b b && is_text t t) ≡ true
    by true e h = ap (λ z. z && is_text t t) e ∙ h
    by false e h = grind (arith, e)

pub text_same : (t u : List ℕ) → is_text t u ≡ true → t ≡ u
text_same [] [] e = refl
text_same [] (c ∷ u) e = absurd cc
text_same (b ∷ t) [] e = absurd cc
text_same (b ∷ t) (c ∷ u) e = by (nat_eq b c) refl e (text_same t u)
  where
    join : b ≡ c → t ≡ u → (b ∷ t) ≡ (c ∷ u)
    join h k = ap (λ z. z ∷ t) h ∙ ap (λ z. c ∷ z) k

    by : (r : Bool) → nat_eq b c ≡ r → (r && is_text t u) ≡ true → (is_text t u ≡ true → t ≡ u) → (b ∷ t) ≡ (c ∷ u)
    by true h k l = join (grind (arith, h)) (l k)
    by false h k l = absurd cc

pub text_other : (t u : List ℕ) → is_text t u ≡ false → is_text u t ≡ false
text_other t u e = by (is_text u t) refl
  where
    by : (r : Bool) → is_text u t ≡ r → r ≡ false
    by true h = sym (text_self u) ∙ ap (λ z. is_text z u) (text_same u t h) ∙ e
    by false h = refl

-- Texts among others.

pub among-append : (t : List ℕ) (xs ys : List (List ℕ)) → is_among t (xs ++ ys) ≡ (is_among t xs || is_among t ys)
among-append t [] ys = refl
among-append t (x ∷ xs) ys = by (is_text t x) (among-append t xs ys)
  where
    by : (b : Bool) → is_among t (xs ++ ys) ≡ (is_among t xs || is_among t ys) → (b || is_among t (xs ++ ys)) ≡ ((b || is_among t xs) || is_among t ys)
    by true h = refl
    by false h = h

or_left : (a b : Bool) → a ≡ true → (a || b) ≡ true
or_left true b e = refl
or_left false b e = absurd cc

or_right : (a b : Bool) → b ≡ true → (a || b) ≡ true
or_right true b e = refl
or_right false b e = e

pub or_none : (a b : Bool) → (a || b) ≡ false → (a ≡ false) × (b ≡ false)
or_none true b e = absurd cc
or_none false b e = (refl, e)

pub with_among : (t u : List ℕ) (texts : List (List ℕ)) → is_among t texts ≡ true → is_among t (with_text u texts) ≡ true
with_among t u texts h = by (is_among u texts)
  where
    by : (b : Bool) → is_among t (if b then texts else texts ++ u ∷ []) ≡ true
    by true = h
    by false = among-append t texts (u ∷ []) ∙ or_left (is_among t texts) (is_among t (u ∷ [])) h

pub with_self : (t : List ℕ) (texts : List (List ℕ)) → is_among t (with_text t texts) ≡ true
with_self t texts = by (is_among t texts) refl
  where
    by : (b : Bool) → is_among t texts ≡ b → is_among t (if b then texts else texts ++ t ∷ []) ≡ true
    by true e = e
    by false e = among-append t texts (t ∷ []) ∙ or_right (is_among t texts) (is_among t (t ∷ [])) (or_left (is_text t t) false (text_self t))

-- a text that is not among others, and is not the one put after them
with_other : (t u : List ℕ) (texts : List (List ℕ)) → is_text t u ≡ false → is_among t texts ≡ false → is_among t (with_text u texts) ≡ false
with_other t u texts e h = by (is_among u texts)
  where
    by : (b : Bool) → is_among t (if b then texts else texts ++ u ∷ []) ≡ false
    by true = h
    by false = among-append t texts (u ∷ []) ∙ ap (λ z. z || (is_text t u || false)) h ∙ ap (λ z. z || false) e

distinct_keeps : (t : List ℕ) (before : List (List ℕ)) (names : List Name) → is_among t before ≡ true → is_among t (distinct_from before names) ≡ true
distinct_keeps t before [] h = h
distinct_keeps t before (n ∷ names) h = distinct_keeps t (with_text n.text before) names (with_among t n.text before h)

pub names_among : (before : List (List ℕ)) (names : List Name) → AreAmong (distinct_from before names) names
names_among before [] = tt {0}
names_among before (n ∷ names) = (distinct_keeps n.text (with_text n.text before) names (with_self n.text before), names_among (with_text n.text before) names)

-- Each text once.

abbrev pub AreOnce : List (List ℕ) → Type 0
AreOnce [] = Unit {0}
AreOnce (x ∷ xs) = (is_among x xs ≡ false) × AreOnce xs

pub once_behind : (xs : List (List ℕ)) (t : List ℕ) → AreOnce xs → is_among t xs ≡ false → AreOnce (xs ++ t ∷ [])
once_behind [] t h e = (refl, tt {0})
once_behind (x ∷ xs) t h e =
    let free = or_none (is_text t x) (is_among t xs) e in
    (among-append x xs (t ∷ []) ∙ ap (λ z. z || (is_text x t || false)) h.0 ∙ ap (λ z. z || false) (text_other t x free.0), once_behind xs t h.1 free.1)

once_with : (xs : List (List ℕ)) (t : List ℕ) → AreOnce xs → AreOnce (with_text t xs)
once_with xs t h = by (is_among t xs) refl
  where
    by : (b : Bool) → is_among t xs ≡ b → AreOnce (if b then xs else xs ++ t ∷ [])
    by true e = h
    by false e = once_behind xs t h e

pub once_distinct : (before : List (List ℕ)) (names : List Name) → AreOnce before → AreOnce (distinct_from before names)
once_distinct before [] h = h
once_distinct before (n ∷ names) h = once_distinct (with_text n.text before) names (once_with before n.text h)

-- Places.

pub element_among : (xs : List (List ℕ)) (k : ℕ) → k < length xs → is_among (get_or xs k []) xs ≡ true
element_among [] k h = absurd (omega arith)
element_among (x ∷ xs) zero h = or_left (is_text x x) (is_among x xs) (text_self x)
element_among (x ∷ xs) (suc k) h = or_right (is_text (get_or xs k []) x) (is_among (get_or xs k []) xs) (element_among xs k (omega arith))

absent : (t : List ℕ) (xs : List (List ℕ)) (k : ℕ) → is_among t xs ≡ false → k < length xs → is_text t (get_or xs k []) ≡ false
absent t [] k e h = absurd (omega arith)
absent t (x ∷ xs) zero e h = (or_none (is_text t x) (is_among t xs) e).0
absent t (x ∷ xs) (suc k) e h = absent t xs k (or_none (is_text t x) (is_among t xs) e).1 (omega arith)

pub place_element : (xs : List (List ℕ)) (k : ℕ) → AreOnce xs → k < length xs → place (get_or xs k []) xs ≡ k
place_element [] k h l = absurd (omega arith)
place_element (x ∷ xs) zero h l = ap (λ z. if not z then 1 + place x xs else 0) (text_self x)
place_element (x ∷ xs) (suc k) h l =
    ap (λ z. if not z then 1 + place (get_or xs k []) xs else 0) (text_other x (get_or xs k []) (absent x xs k h.0 (omega arith)))
    ∙ ap (λ z. 1 + z) (place_element xs k h.1 (omega arith)) ∙ omega arith

-- two texts among others that have one place are the same
pub same_place : (t u : List ℕ) (xs : List (List ℕ)) → is_among t xs ≡ true → is_among u xs ≡ true → place t xs ≡ place u xs → t ≡ u
same_place t u [] h k e = absurd cc
same_place t u (x ∷ xs) h k e = by (is_text t x) (is_text u x) refl refl h k
    (sym (ap (λ z. if not z then 1 + place t xs else 0) refl) ∙ e) (same_place t u xs)
  where
    by : (a b : Bool) → is_text t x ≡ a → is_text u x ≡ b → (a || is_among t xs) ≡ true → (b || is_among u xs) ≡ true → place t (x ∷ xs) ≡ place u (x ∷ xs)
        → (is_among t xs ≡ true → is_among u xs ≡ true → place t xs ≡ place u xs → t ≡ u) → t ≡ u
    by true true p q h k e l = text_same t x p ∙ sym (text_same u x q)
    by true false p q h k e l = absurd (differ (sym (ap (λ z. if not z then 1 + place t xs else 0) p) ∙ e ∙ ap (λ z. if not z then 1 + place u xs else 0) q))
      where
        differ : 0 ≡ 1 + place u xs → ⊥
        differ d = omega arith
    by false true p q h k e l = absurd (differ (sym (ap (λ z. if not z then 1 + place t xs else 0) p) ∙ e ∙ ap (λ z. if not z then 1 + place u xs else 0) q))
      where
        differ : 1 + place t xs ≡ 0 → ⊥
        differ d = omega arith
    by false false p q h k e l = l h k (less (sym (ap (λ z. if not z then 1 + place t xs else 0) p) ∙ e ∙ ap (λ z. if not z then 1 + place u xs else 0) q))
      where
        less : 1 + place t xs ≡ 1 + place u xs → place t xs ≡ place u xs
        less d = omega arith

-- the places of names among these texts
abbrev pub places : List (List ℕ) → List Name → List ℕ
places texts = map (λ n. place n.text texts)

contains_later : (x y : ℕ) (xs : List ℕ) → Contains xs y → Contains (x ∷ xs) y
contains_later x y xs h = (suc h.0, omega (arith, h.1), h.2)

-- a text that the names add to those before has the place of one of them
pub added_place : (t : List ℕ) (texts before : List (List ℕ)) (names : List Name) → is_among t before ≡ false → is_among t (distinct_from before names) ≡ true
    → Contains (places texts names) (place t texts)
added_place t texts before [] e h = absurd cc
added_place t texts before (n ∷ names) e h = by (is_text t n.text) refl (λ k. added_place t texts (with_text n.text before) names (with_other t n.text before k e) h)
  where
    by : (b : Bool) → is_text t n.text ≡ b → (is_text t n.text ≡ false → Contains (places texts names) (place t texts)) → Contains (places texts (n ∷ names)) (place t texts)
    by true k l = (0, omega arith, ap (λ z. place z texts) (sym (text_same t n.text k)))
    by false k l = contains_later (place n.text texts) (place t texts) (places texts names) (l k)
