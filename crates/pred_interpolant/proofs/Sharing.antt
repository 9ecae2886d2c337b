-- The names and symbols of a formula with some of its constants under quantifiers.
use Rattle.std.proofs.Common.{◌≡◌, ◌+◌, ◌<◌, ◌≤◌, ◌&&◌, ◌||◌, not, ℕ, zero, suc, Bool, true, false, cond, nat_eq, nat_lt, List, [], ◌∷◌, ◌++◌, map, length, filter, if◌then◌else◌, refl, sym, ◌∙◌, ap, arith, inl, inr}
use Rattle.std.specs.Bool.{beq}
use Rattle.std.specs.List.{list_all, list_any}
use Rattle.std.proofs.lemmas.Bool.{cases_lt, false≢true}
use Rattle.std.proofs.lemmas.Bool.Decides.{nat_tests}
use Rattle.std.proofs.lemmas.List.{map-append}
use Rattle.form_typed.specs.declared.typed.Sort.{Sort}
use Rattle.form_typed.specs.Formula.{Formula, Formulas, Expression, Expressions, constant, compares, applies, negation, every, some, implies, iff, for_all, for_some, part, no_formula, and_formula, number, name, call, minus, total, product, choice, absolute, lesser, greater, no_expression, and_expression}
use Rattle.pri_typing.specs.declared.problem.Problem.{Problem}
use Rattle.form_encoding.specs.Occurrences.{names_in, names_in_all, names_in_term, names_in_terms, occurs}
use Rattle.form_encoding.specs.Problems.{constants}
use Rattle.itp_sides.specs.Closing.{closed, numbers_from, own_constants, place_of, quantified, rebound, renamed, renamed_all, renamed_term, renamed_terms, strongest_formula, types_of, weakest_formula}
use Rattle.itp_sides.specs.Symbols.{is_symbol, is_within, symbols_in, symbols_in_all, symbols_in_term, symbols_in_terms, uses}
use Rattle.pred_interpolant.specs.Middle.{Shares}

-- ---- symbols

two : {A : Type 0} {a b c d : List A} → a ≡ b → c ≡ d → (a ++ c) ≡ (b ++ d)
two h k = λ i. h i ++ k i

mutual
  symbols-renamed : (r : ℕ → ℕ) (f : Formula) → symbols_in (renamed r f) ≡ symbols_in f
  symbols-renamed r (constant b) = refl
  symbols-renamed r (compares c s t) = two (symbols_term-renamed r s) (symbols_term-renamed r t)
  symbols-renamed r (applies p ts) = ap (λ z. (true, p) ∷ z) (symbols_terms-renamed r ts)
  symbols-renamed r (negation f) = symbols-renamed r f
  symbols-renamed r (every fs) = symbols_all-renamed r fs
  symbols-renamed r (some fs) = symbols_all-renamed r fs
  symbols-renamed r (implies f g) = two (symbols-renamed r f) (symbols-renamed r g)
  symbols-renamed r (iff f g) = two (symbols-renamed r f) (symbols-renamed r g)
  symbols-renamed r (for_all s f) = symbols-renamed r f
  symbols-renamed r (for_some s f) = symbols-renamed r f
  symbols-renamed r (part k f) = symbols-renamed r f

  symbols_all-renamed : (r : ℕ → ℕ) (fs : Formulas) → symbols_in_all (renamed_all r fs) ≡ symbols_in_all fs
  symbols_all-renamed r no_formula = refl
  symbols_all-renamed r (and_formula f fs) = two (symbols-renamed r f) (symbols_all-renamed r fs)

  symbols_term-renamed : (r : ℕ → ℕ) (t : Expression) → symbols_in_term (renamed_term r t) ≡ symbols_in_term t
  symbols_term-renamed r (number v) = refl
  symbols_term-renamed r (name x) = refl
  symbols_term-renamed r (call f ts) = ap (λ z. (false, f) ∷ z) (symbols_terms-renamed r ts)
  symbols_term-renamed r (minus t) = symbols_term-renamed r t
  symbols_term-renamed r (total ts) = symbols_terms-renamed r ts
  symbols_term-renamed r (product s t) = two (symbols_term-renamed r s) (symbols_term-renamed r t)
  symbols_term-renamed r (choice f s t) = two (symbols-renamed r f) (two (symbols_term-renamed r s) (symbols_term-renamed r t))
  symbols_term-renamed r (absolute t) = symbols_term-renamed r t
  symbols_term-renamed r (lesser s t) = two (symbols_term-renamed r s) (symbols_term-renamed r t)
  symbols_term-renamed r (greater s t) = two (symbols_term-renamed r s) (symbols_term-renamed r t)

  symbols_terms-renamed : (r : ℕ → ℕ) (ts : Expressions) → symbols_in_terms (renamed_terms r ts) ≡ symbols_in_terms ts
  symbols_terms-renamed r no_expression = refl
  symbols_terms-renamed r (and_expression t ts) = two (symbols_term-renamed r t) (symbols_terms-renamed r ts)

symbols-quantified : (all : Bool) (ss : List Sort) (f : Formula) → symbols_in (quantified all ss f) ≡ symbols_in f
symbols-quantified all [] f = refl
symbols-quantified true (s ∷ ss) f = symbols-quantified true ss f
symbols-quantified false (s ∷ ss) f = symbols-quantified false ss f

closed_symbols : (all : Bool) (p : Problem) (own : List ℕ) (f : Formula) → symbols_in (closed all p own f) ≡ symbols_in f
closed_symbols all p own f = symbols-quantified all (types_of p own) (renamed (rebound (constants p) own) f) ∙ symbols-renamed (rebound (constants p) own) f

-- ---- names

mutual
  names-renamed : (r : ℕ → ℕ) (f : Formula) → names_in (renamed r f) ≡ map r (names_in f)
  names-renamed r (constant b) = refl
  names-renamed r (compares c s t) = two (names_term-renamed r s) (names_term-renamed r t) ∙ sym (map-append r (names_in_term s) (names_in_term t))
  names-renamed r (applies p ts) = names_terms-renamed r ts
  names-renamed r (negation f) = names-renamed r f
  names-renamed r (every fs) = names_all-renamed r fs
  names-renamed r (some fs) = names_all-renamed r fs
  names-renamed r (implies f g) = two (names-renamed r f) (names-renamed r g) ∙ sym (map-append r (names_in f) (names_in g))
  names-renamed r (iff f g) = two (names-renamed r f) (names-renamed r g) ∙ sym (map-append r (names_in f) (names_in g))
  names-renamed r (for_all s f) = names-renamed r f
  names-renamed r (for_some s f) = names-renamed r f
  names-renamed r (part k f) = names-renamed r f

  names_all-renamed : (r : ℕ → ℕ) (fs : Formulas) → names_in_all (renamed_all r fs) ≡ map r (names_in_all fs)
  names_all-renamed r no_formula = refl
  names_all-renamed r (and_formula f fs) = two (names-renamed r f) (names_all-renamed r fs) ∙ sym (map-append r (names_in f) (names_in_all fs))

  names_term-renamed : (r : ℕ → ℕ) (t : Expression) → names_in_term (renamed_term r t) ≡ map r (names_in_term t)
  names_term-renamed r (number v) = refl
  names_term-renamed r (name x) = refl
  names_term-renamed r (call f ts) = names_terms-renamed r ts
  names_term-renamed r (minus t) = names_term-renamed r t
  names_term-renamed r (total ts) = names_terms-renamed r ts
  names_term-renamed r (product s t) = two (names_term-renamed r s) (names_term-renamed r t) ∙ sym (map-append r (names_in_term s) (names_in_term t))
  names_term-renamed r (choice f s t) =
      two (names-renamed r f) (two (names_term-renamed r s) (names_term-renamed r t) ∙ sym (map-append r (names_in_term s) (names_in_term t)))
      ∙ sym (map-append r (names_in f) (names_in_term s ++ names_in_term t))
  names_term-renamed r (absolute t) = names_term-renamed r t
  names_term-renamed r (lesser s t) = two (names_term-renamed r s) (names_term-renamed r t) ∙ sym (map-append r (names_in_term s) (names_in_term t))
  names_term-renamed r (greater s t) = two (names_term-renamed r s) (names_term-renamed r t) ∙ sym (map-append r (names_in_term s) (names_in_term t))

  names_terms-renamed : (r : ℕ → ℕ) (ts : Expressions) → names_in_terms (renamed_terms r ts) ≡ map r (names_in_terms ts)
  names_terms-renamed r no_expression = refl
  names_terms-renamed r (and_expression t ts) = two (names_term-renamed r t) (names_terms-renamed r ts) ∙ sym (map-append r (names_in_term t) (names_in_terms ts))

names-quantified : (all : Bool) (ss : List Sort) (f : Formula) → names_in (quantified all ss f) ≡ names_in f
names-quantified all [] f = refl
names-quantified true (s ∷ ss) f = names-quantified true ss f
names-quantified false (s ∷ ss) f = names-quantified false ss f

number_is : (x y : ℕ) → nat_eq x y ≡ true → x ≡ y
number_is x y h = grind (arith, nat_tests)

number_same : (x y : ℕ) → x ≡ y → nat_eq x y ≡ true
number_same x y h = grind (arith, nat_tests)

-- a constant that a name goes to is that name, and none of those that get quantifiers
comes_from : (n : ℕ) (own : List ℕ) (x y : ℕ) → x < n → x ≡ rebound n own y → (x ≡ y) × (list_any (nat_eq y) own ≡ false)
comes_from n own x y lt = by (nat_lt y n) refl
  where
    at : (b : Bool) → list_any (nat_eq y) own ≡ b → x ≡ cond b (n + place_of y own) y → (x ≡ y) × (list_any (nat_eq y) own ≡ false)
    at true h e = absurd (omega (arith, e, lt))
    at false h e = (e, h)

    by : (b : Bool) → nat_lt y n ≡ b → x ≡ cond b (cond (list_any (nat_eq y) own) (n + place_of y own) y) (y + length own) → (x ≡ y) × (list_any (nat_eq y) own ≡ false)
    by true h e = at (list_any (nat_eq y) own) refl e
    by false h e = let le : n ≤ y = grind (arith, nat_tests) in absurd (omega (arith, e, lt, le))

left_name : (n : ℕ) (own : List ℕ) (x : ℕ) (xs : List ℕ) → x < n → list_any (nat_eq x) (map (rebound n own) xs) ≡ true
    → (list_any (nat_eq x) xs ≡ true) × (list_any (nat_eq x) own ≡ false)
left_name n own x [] lt h = absurd (false≢true h)
left_name n own x (y ∷ xs) lt h = by (nat_eq x (rebound n own y)) refl h (left_name n own x xs lt)
  where
    right : (a b : Bool) → b ≡ true → (a || b) ≡ true
    right true b h = refl
    right false b h = h

    by : (b : Bool) → nat_eq x (rebound n own y) ≡ b → (b || list_any (nat_eq x) (map (rebound n own) xs)) ≡ true
        → (list_any (nat_eq x) (map (rebound n own) xs) ≡ true → (list_any (nat_eq x) xs ≡ true) × (list_any (nat_eq x) own ≡ false))
        → ((nat_eq x y || list_any (nat_eq x) xs) ≡ true) × (list_any (nat_eq x) own ≡ false)
    by true e i f =
        let k = comes_from n own x y lt (number_is x (rebound n own y) e) in
        (ap (λ b. b || list_any (nat_eq x) xs) (number_same x y k.0), ap (λ z. list_any (nat_eq z) own) k.0 ∙ k.1)
    by false e i f = let k = f i in (right (nat_eq x y) (list_any (nat_eq x) xs) k.0, k.1)

closed_names : (all : Bool) (p : Problem) (own : List ℕ) (f : Formula) (x : ℕ) → x < constants p → occurs x (closed all p own f) ≡ true
    → (occurs x f ≡ true) × (list_any (nat_eq x) own ≡ false)
closed_names all p own f x lt h =
    left_name (constants p) own x (names_in f) lt
    (sym (ap (list_any (nat_eq x)) (names-quantified all (types_of p own) (renamed (rebound (constants p) own) f) ∙ names-renamed (rebound (constants p) own) f)) ∙ h)

in_filtered : (test : ℕ → Bool) (x k n : ℕ) → k ≤ x → x < k + n → test x ≡ true → list_any (nat_eq x) (filter test (numbers_from k n)) ≡ true
in_filtered test x k zero l m h = absurd (omega (arith, l, m))
in_filtered test x k (suc n) l m h =
    elim (cases_lt k x) [
      | inl s ↦ behind (test k) (in_filtered test x (suc k) n (omega (arith, s)) (omega (arith, m)) h)
      | inr g ↦ let q : x ≡ k = omega (arith, g, l) in first (test k) (sym (ap test q) ∙ h) (number_same x k q)
    ]
  where
    behind : (c : Bool) → list_any (nat_eq x) (filter test (numbers_from (suc k) n)) ≡ true
        → list_any (nat_eq x) (if c then k ∷ filter test (numbers_from (suc k) n) else filter test (numbers_from (suc k) n)) ≡ true
    behind true i = right (nat_eq x k) (list_any (nat_eq x) (filter test (numbers_from (suc k) n))) i
      where
        right : (a b : Bool) → b ≡ true → (a || b) ≡ true
        right true b h = refl
        right false b h = h
    behind false i = i

    first : (c : Bool) → c ≡ true → nat_eq x k ≡ true
        → list_any (nat_eq x) (if c then k ∷ filter test (numbers_from (suc k) n) else filter test (numbers_from (suc k) n)) ≡ true
    first true i e = rw e refl
    first false i e = absurd (false≢true i)

-- a constant of f that is none of its own stands in g
in_other : (n : ℕ) (f g : Formula) (x : ℕ) → x < n → occurs x f ≡ true → list_any (nat_eq x) (own_constants n f g) ≡ false → occurs x g ≡ true
in_other n f g x l h q = by (occurs x g) refl
  where
    by : (c : Bool) → occurs x g ≡ c → c ≡ true
    by true i = refl
    by false i = absurd (false≢true (sym q ∙ in_filtered (λ y. occurs y f && not (occurs y g)) x 0 n (omega arith) (omega (arith, l)) (rw (h, i) refl)))

-- ---- what both speak of

same_bool : (a b : Bool) → beq a b ≡ true → a ≡ b
same_bool true true h = refl
same_bool true false h = absurd (false≢true h)
same_bool false true h = absurd (false≢true h)
same_bool false false h = refl

and_left : (a b : Bool) → (a && b) ≡ true → a ≡ true
and_left true b h = refl
and_left false b h = absurd (false≢true h)

and_right : (a b : Bool) → (a && b) ≡ true → b ≡ true
and_right true b h = h
and_right false b h = absurd (false≢true h)

same_symbol : (a b : Bool × ℕ) → is_symbol a b ≡ true → a ≡ b
same_symbol a b h =
    let first = same_bool a.0 b.0 (and_left (beq a.0 b.0) (nat_eq a.1 b.1) h) in
    let second = number_is a.1 b.1 (and_right (beq a.0 b.0) (nat_eq a.1 b.1) h) in
    λ i. (first i, second i)

within_uses : (g : Formula) (symbols : List (Bool × ℕ)) (a : Bool × ℕ) → list_all (uses g) symbols ≡ true → list_any (is_symbol a) symbols ≡ true → uses g a ≡ true
within_uses g [] a h k = absurd (false≢true k)
within_uses g (b ∷ symbols) a h k = by (is_symbol a b) refl k (within_uses g symbols a (and_right (uses g b) (list_all (uses g) symbols) h))
  where
    by : (c : Bool) → is_symbol a b ≡ c → (c || list_any (is_symbol a) symbols) ≡ true → (list_any (is_symbol a) symbols ≡ true → uses g a ≡ true) → uses g a ≡ true
    by true e i f = ap (uses g) (same_symbol a b e) ∙ and_left (uses g b) (list_all (uses g) symbols) h
    by false e i f = f i

pub strongest_shares : (p : Problem) (f g : Formula) → is_within f g ≡ true → Shares p f (strongest_formula p f g) g
strongest_shares p f g h =
    let own = own_constants (constants p) f g in
    record {
      names = λ x lt o. let k = closed_names false p own f x lt o in (k.0, in_other (constants p) f g x lt k.0 k.1);
      symbols = λ a u. let k : uses f a ≡ true = sym (ap (list_any (is_symbol a)) (closed_symbols false p own f)) ∙ u in (k, within_uses g (symbols_in f) a h k);
    }

pub weakest_shares : (p : Problem) (f g : Formula) → is_within g f ≡ true → Shares p f (weakest_formula p f g) g
weakest_shares p f g h =
    let own = own_constants (constants p) g f in
    record {
      names = λ x lt o. let k = closed_names true p own (negation g) x lt o in (in_other (constants p) g f x lt k.0 k.1, k.0);
      symbols = λ a u. let k : uses g a ≡ true = sym (ap (list_any (is_symbol a)) (closed_symbols true p own (negation g))) ∙ u in (within_uses f (symbols_in g) a h k, k);
    }
