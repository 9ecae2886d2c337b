-- What the marks of symbols say, and the case that they give.
use Rattle.std.proofs.Common.{◌≡◌, ◌↔◌, ◌+◌, ◌*◌, ◌<◌, ◌&&◌, ◌||◌, ℕ, suc, Bool, true, false, cond, nat_eq, List, [], ◌∷◌, ◌++◌, length, refl, sym, ◌∙◌, ap, subst, arith}
use Rattle.std.specs.Bool.{beq}
use Rattle.std.specs.List.{AllByRecursion, list_all, list_any}
use Rattle.std.proofs.lemmas.Bool.{false≢true}
use Rattle.std.proofs.lemmas.Bool.Decides.{nat_tests}
use Rattle.std.proofs.lemmas.List.{length-replicate, length-set, get_or-set_same, get_or-set_other, get_or-replicate}
use Rattle.form_typed.specs.Formula.{Formula, Formulas, Expression, Expressions, constant, compares, applies, negation, every, some, implies, iff, for_all, for_some, part, no_formula, and_formula, number, name, call, minus, total, product, choice, absolute, lesser, greater, no_expression, and_expression}
use Rattle.pri_typing.specs.declared.problem.Problem.{Problem}
use Rattle.pri_typing.specs.Everywhere.{Everywhere, AllEverywhere, TermEverywhere, TermsEverywhere}
use Rattle.pri_typing.specs.WellFormed.{size}
use Rattle.function_encoding.specs.Marks.{is_marked, with_mark}
use Rattle.itp_sides.specs.Sides.{arithmetic, case_between, first_itself, second_denied, none}
use Rattle.itp_sides.specs.Symbols.{is_empty, is_symbol, is_within, symbols_in, symbols_in_all, symbols_in_term, symbols_in_terms, uses}
use Rattle.itp_printer.proofs.Together.{arity_below}
use Rattle.pred_interpolant.specs.Fit.{IsFitFormula, fit}
use Rattle.pred_interpolant.specs.Marks.{AreSymbolMarks, AreUnset, AreMarkedWithin, no_marks, noted, symbol_place}

-- ---- the places of symbols

abbrev places : Problem → ℕ
places p = 2 * (length p.predicates + length p.functions)

abbrev InPlaces : Problem → List (Bool × ℕ) → Type 0
InPlaces p xs = AllByRecursion (λ a. symbol_place a < places p) xs

both : (p : Problem) (xs ys : List (Bool × ℕ)) → InPlaces p xs → InPlaces p ys → InPlaces p (xs ++ ys)
both p [] ys h k = k
both p (a ∷ xs) ys h k = (h.0, both p xs ys h.1 k)

mutual
  placed : (p : Problem) (n : ℕ) (f : Formula) → Everywhere (fit p) n f → InPlaces p (symbols_in f)
  placed p n (constant b) h = tt
  placed p n (compares r s t) h = both p (symbols_in_term s) (symbols_in_term t) (placed_term p n s h.1) (placed_term p n t h.2)
  placed p n (applies q ts) h = ((let l = arity_below p.predicates q (size ts) h.0.predicate in omega (arith, l)), placed_terms p n ts h.1)
  placed p n (negation f) h = placed p n f h.1
  placed p n (every fs) h = placed_all p n fs h.1
  placed p n (some fs) h = placed_all p n fs h.1
  placed p n (implies f g) h = both p (symbols_in f) (symbols_in g) (placed p n f h.1) (placed p n g h.2)
  placed p n (iff f g) h = both p (symbols_in f) (symbols_in g) (placed p n f h.1) (placed p n g h.2)
  placed p n (for_all s f) h = placed p (suc n) f h.1
  placed p n (for_some s f) h = placed p (suc n) f h.1
  placed p n (part k f) h = placed p n f h.1

  placed_all : (p : Problem) (n : ℕ) (fs : Formulas) → AllEverywhere (fit p) n fs → InPlaces p (symbols_in_all fs)
  placed_all p n no_formula h = tt
  placed_all p n (and_formula f fs) h = both p (symbols_in f) (symbols_in_all fs) (placed p n f h.0) (placed_all p n fs h.1)

  placed_term : (p : Problem) (n : ℕ) (t : Expression) → TermEverywhere (fit p) n t → InPlaces p (symbols_in_term t)
  placed_term p n (number v) h = tt
  placed_term p n (name x) h = tt
  placed_term p n (call f ts) h = ((let l = arity_below p.functions f (size ts) h.0.function.0 in omega (arith, l)), placed_terms p n ts h.1)
  placed_term p n (minus t) h = placed_term p n t h.1
  placed_term p n (total ts) h = placed_terms p n ts h.1
  placed_term p n (product s t) h = both p (symbols_in_term s) (symbols_in_term t) (placed_term p n s h.1) (placed_term p n t h.2)
  placed_term p n (choice f s t) h =
      both p (symbols_in f) (symbols_in_term s ++ symbols_in_term t) (placed p n f h.1)
      (both p (symbols_in_term s) (symbols_in_term t) (placed_term p n s h.2) (placed_term p n t h.3))
  placed_term p n (absolute t) h = placed_term p n t h.1
  placed_term p n (lesser s t) h = both p (symbols_in_term s) (symbols_in_term t) (placed_term p n s h.1) (placed_term p n t h.2)
  placed_term p n (greater s t) h = both p (symbols_in_term s) (symbols_in_term t) (placed_term p n s h.1) (placed_term p n t h.2)

  placed_terms : (p : Problem) (n : ℕ) (ts : Expressions) → TermsEverywhere (fit p) n ts → InPlaces p (symbols_in_terms ts)
  placed_terms p n no_expression h = tt
  placed_terms p n (and_expression t ts) h = both p (symbols_in_term t) (symbols_in_terms ts) (placed_term p n t h.0) (placed_terms p n ts h.1)

-- ---- what the marks say

length-noted : (marks : List Bool) (xs : List (Bool × ℕ)) → length (noted marks xs) ≡ length marks
length-noted marks [] = refl
length-noted marks (a ∷ xs) = length-noted (with_mark marks (symbol_place a)) xs ∙ length-set marks (symbol_place a) true

number_is_not : (x y : ℕ) → nat_eq x y ≡ false → ¬ (x ≡ y)
number_is_not x y h e = grind (arith, nat_tests)

number_is : (x y : ℕ) → nat_eq x y ≡ true → x ≡ y
number_is x y h = grind (arith, nat_tests)

number_same : (x y : ℕ) → x ≡ y → nat_eq x y ≡ true
number_same x y h = grind (arith, nat_tests)

one_mark : (marks : List Bool) (x y : ℕ) → y < length marks → is_marked (with_mark marks x) y ≡ (is_marked marks y || nat_eq y x)
one_mark marks x y lt = by (nat_eq y x) refl
  where
    true_or : (b : Bool) → (b || true) ≡ true
    true_or true = refl
    true_or false = refl

    or_false : (b : Bool) → (b || false) ≡ b
    or_false true = refl
    or_false false = refl

    by : (b : Bool) → nat_eq y x ≡ b → is_marked (with_mark marks x) y ≡ (is_marked marks y || b)
    by true e =
        subst (λ z. is_marked (with_mark marks z) y ≡ (is_marked marks y || true)) (number_is y x e) (get_or-set_same marks y true false lt ∙ sym (true_or (is_marked marks y)))
    by false e = get_or-set_other marks x y true false (λ s. number_is_not y x e s) ∙ sym (or_false (is_marked marks y))

abbrev at_place : ℕ → (Bool × ℕ) → Bool
at_place y a = nat_eq y (symbol_place a)

or_assoc : (a b c : Bool) → ((a || b) || c) ≡ (a || (b || c))
or_assoc true b c = refl
or_assoc false b c = refl

marks_say : (xs : List (Bool × ℕ)) (marks : List Bool) (y : ℕ) → y < length marks → is_marked (noted marks xs) y ≡ (is_marked marks y || list_any (at_place y) xs)
marks_say [] marks y lt = one (is_marked marks y)
  where
    one : (b : Bool) → b ≡ (b || false)
    one true = refl
    one false = refl
marks_say (a ∷ xs) marks y lt =
    marks_say xs (with_mark marks (symbol_place a)) y (subst (λ n. y < n) (sym (length-set marks (symbol_place a) true)) lt)
    ∙ ap (λ b. b || list_any (at_place y) xs) (one_mark marks (symbol_place a) y lt) ∙ or_assoc (is_marked marks y) (at_place y a) (list_any (at_place y) xs)

length-no_marks : (p : Problem) → length (no_marks p) ≡ places p
length-no_marks p = length-replicate (places p) false

unmarked : (p : Problem) (y : ℕ) → y < places p → is_marked (no_marks p) y ≡ false
unmarked p y lt = get_or-replicate (places p) y false false lt

-- a mark is set exactly where a symbol has its place
marks_exact : (p : Problem) (f : Formula) (marks : List Bool) → AreSymbolMarks p f marks → (y : ℕ) → y < places p → is_marked marks y ≡ list_any (at_place y) (symbols_in f)
marks_exact p f marks e y lt =
    ap (λ ms. is_marked ms y) e ∙ marks_say (symbols_in f) (no_marks p) y (subst (λ n. y < n) (sym (length-no_marks p)) lt)
    ∙ ap (λ b. b || list_any (at_place y) (symbols_in f)) (unmarked p y lt)

pub marks_many : (p : Problem) (f : Formula) (marks : List Bool) → AreSymbolMarks p f marks → length marks ≡ places p
marks_many p f marks e = ap length e ∙ length-noted (no_marks p) (symbols_in f) ∙ length-no_marks p

-- ---- the symbols of two formulas

same_bool : (a b : Bool) → beq a b ≡ true → a ≡ b
same_bool true true h = refl
same_bool true false h = absurd (false≢true h)
same_bool false true h = absurd (false≢true h)
same_bool false false h = refl

and_left : (a b : Bool) → (a && b) ≡ true → a ≡ true
and_left true b h = refl
and_left false b h = absurd (false≢true h)

and_right : (a b : Bool) → (a && b) ≡ true → b ≡ true
and_right true b h = h
and_right false b h = absurd (false≢true h)

and_both : (a b : Bool) → a ≡ true → b ≡ true → (a && b) ≡ true
and_both true b h k = k
and_both false b h k = absurd (false≢true h)

or_right : (a b : Bool) → b ≡ true → (a || b) ≡ true
or_right true b h = refl
or_right false b h = h

same_symbol : (a b : Bool × ℕ) → is_symbol a b ≡ true → a ≡ b
same_symbol a b h =
    let first = same_bool a.0 b.0 (and_left (beq a.0 b.0) (nat_eq a.1 b.1) h) in
    let second = number_is a.1 b.1 (and_right (beq a.0 b.0) (nat_eq a.1 b.1) h) in
    λ i. (first i, second i)

beq_self : (a : Bool) → beq a a ≡ true
beq_self true = refl
beq_self false = refl

symbol_self : (a : Bool × ℕ) → is_symbol a a ≡ true
symbol_self a = and_both (beq a.0 a.0) (nat_eq a.1 a.1) (beq_self a.0) (number_same a.1 a.1 refl)

same_place : (a b : Bool × ℕ) → symbol_place a ≡ symbol_place b → a ≡ b
same_place a b h = by a.0 b.0 a.1 b.1 h
  where
    by : (s t : Bool) (m n : ℕ) → 2 * m + cond s 0 1 ≡ 2 * n + cond t 0 1 → ◌≡◌ {A = Bool × ℕ} (s, m) (t, n)
    by true true m n e = let q : m ≡ n = omega (arith, e) in λ i. (true, q i)
    by true false m n e = absurd (omega (arith, e))
    by false true m n e = absurd (omega (arith, e))
    by false false m n e = let q : m ≡ n = omega (arith, e) in λ i. (false, q i)

-- a symbol that stands in a list has its place marked there, and the other way round
used_marked : (xs : List (Bool × ℕ)) (a : Bool × ℕ) → list_any (is_symbol a) xs ≡ true → list_any (at_place (symbol_place a)) xs ≡ true
used_marked [] a h = absurd (false≢true h)
used_marked (b ∷ xs) a h = by (is_symbol a b) refl h (used_marked xs a)
  where
    by : (c : Bool) → is_symbol a b ≡ c → (c || list_any (is_symbol a) xs) ≡ true → (list_any (is_symbol a) xs ≡ true → list_any (at_place (symbol_place a)) xs ≡ true)
        → (at_place (symbol_place a) b || list_any (at_place (symbol_place a)) xs) ≡ true
    by true e i f = ap (λ z. z || list_any (at_place (symbol_place a)) xs) (number_same (symbol_place a) (symbol_place b) (ap symbol_place (same_symbol a b e)))
    by false e i f = or_right (at_place (symbol_place a) b) (list_any (at_place (symbol_place a)) xs) (f i)

marked_used : (xs : List (Bool × ℕ)) (a : Bool × ℕ) → list_any (at_place (symbol_place a)) xs ≡ true → list_any (is_symbol a) xs ≡ true
marked_used [] a h = absurd (false≢true h)
marked_used (b ∷ xs) a h = by (at_place (symbol_place a) b) refl h (marked_used xs a)
  where
    by : (c : Bool) → at_place (symbol_place a) b ≡ c → (c || list_any (at_place (symbol_place a)) xs) ≡ true → (list_any (at_place (symbol_place a)) xs ≡ true → list_any (is_symbol a) xs ≡ true)
        → (is_symbol a b || list_any (is_symbol a) xs) ≡ true
    by true e i f =
        let q = same_place a b (number_is (symbol_place a) (symbol_place b) e) in
        ap (λ z. z || list_any (is_symbol a) xs) (ap (λ z. is_symbol a z) (sym q) ∙ symbol_self a)
    by false e i f = or_right (is_symbol a b) (list_any (is_symbol a) xs) (f i)

in_place : (p : Problem) (xs : List (Bool × ℕ)) (a : Bool × ℕ) → InPlaces p xs → list_any (is_symbol a) xs ≡ true → symbol_place a < places p
in_place p [] a h k = absurd (false≢true k)
in_place p (b ∷ xs) a h k = by (is_symbol a b) refl k (in_place p xs a h.1)
  where
    by : (c : Bool) → is_symbol a b ≡ c → (c || list_any (is_symbol a) xs) ≡ true → (list_any (is_symbol a) xs ≡ true → symbol_place a < places p) → symbol_place a < places p
    by true e i f = subst (λ z. symbol_place z < places p) (sym (same_symbol a b e)) h.0
    by false e i f = f i

all_by : (P : (Bool × ℕ) → Bool) (xs : List (Bool × ℕ)) → ((a : Bool × ℕ) → list_any (is_symbol a) xs ≡ true → P a ≡ true) → list_all P xs ≡ true
all_by P [] h = refl
all_by P (b ∷ xs) h =
    and_both (P b) (list_all P xs) (h b (ap (λ z. z || list_any (is_symbol b) xs) (symbol_self b)))
    (all_by P xs (λ a i. h a (or_right (is_symbol a b) (list_any (is_symbol a) xs) i)))

within_marks : (p : Problem) (f g : Formula) (a b : List Bool) → IsFitFormula p f → AreSymbolMarks p f a → AreSymbolMarks p g b → AreMarkedWithin a b → is_within f g ≡ true
within_marks p f g a b h k l w =
    all_by (uses g) (symbols_in f) (λ s u.
    let lt = in_place p (symbols_in f) s (placed p 0 f h) u in
    let mine : is_marked a (symbol_place s) ≡ true = marks_exact p f a k (symbol_place s) lt ∙ used_marked (symbols_in f) s u in
    marked_used (symbols_in g) s
    (sym (marks_exact p g b l (symbol_place s) lt) ∙ w (symbol_place s) (subst (λ n. symbol_place s < n) (sym (marks_many p f a k)) lt) mine))

all_marked : (p : Problem) (g : Formula) (b : List Bool) (y : ℕ) (xs : List (Bool × ℕ)) → AreSymbolMarks p g b → y < places p → list_all (uses g) xs ≡ true
    → list_any (at_place y) xs ≡ true → is_marked b y ≡ true
all_marked p g b y [] l lt h k = absurd (false≢true k)
all_marked p g b y (s ∷ xs) l lt h k = by (at_place y s) refl k (all_marked p g b y xs l lt (and_right (uses g s) (list_all (uses g) xs) h))
  where
    by : (c : Bool) → at_place y s ≡ c → (c || list_any (at_place y) xs) ≡ true → (list_any (at_place y) xs ≡ true → is_marked b y ≡ true) → is_marked b y ≡ true
    by true e i f =
        let q = number_is y (symbol_place s) e in
        marks_exact p g b l y lt
        ∙ subst (λ z. list_any (at_place z) (symbols_in g) ≡ true) (sym q) (used_marked (symbols_in g) s (and_left (uses g s) (list_all (uses g) xs) h))
    by false e i f = f i

marks_within : (p : Problem) (f g : Formula) (a b : List Bool) → AreSymbolMarks p f a → AreSymbolMarks p g b → is_within f g ≡ true → AreMarkedWithin a b
marks_within p f g a b k l h y lt m =
    let small = subst (λ n. y < n) (marks_many p f a k) lt in
    all_marked p g b y (symbols_in f) l small h (sym (marks_exact p f a k y small) ∙ m)

-- ---- the case

abbrev Exact : Bool → Type 0 → Type 0
Exact b A = (b ≡ true) ↔ A

unset_empty : (p : Problem) (f : Formula) (a : List Bool) → IsFitFormula p f → AreSymbolMarks p f a → AreUnset a → is_empty (symbols_in f) ≡ true
unset_empty p f a h k u = by (symbols_in f) refl
  where
    by : (xs : List (Bool × ℕ)) → symbols_in f ≡ xs → is_empty xs ≡ true
    by [] e = refl
    by (s ∷ xs) e =
        let used : uses f s ≡ true = ap (list_any (is_symbol s)) e ∙ ap (λ z. z || list_any (is_symbol s) xs) (symbol_self s) in
        let lt = in_place p (symbols_in f) s (placed p 0 f h) used in
        absurd (false≢true (sym (u (symbol_place s) (subst (λ n. symbol_place s < n) (sym (marks_many p f a k)) lt))
        ∙ marks_exact p f a k (symbol_place s) lt ∙ used_marked (symbols_in f) s used))

empty_unset : (p : Problem) (f : Formula) (a : List Bool) → AreSymbolMarks p f a → is_empty (symbols_in f) ≡ true → AreUnset a
empty_unset p f a k h y lt =
    marks_exact p f a k y (subst (λ n. y < n) (marks_many p f a k) lt) ∙ ap (list_any (at_place y)) (empty (symbols_in f) h)
  where
    empty : (xs : List (Bool × ℕ)) → is_empty xs ≡ true → xs ≡ []
    empty [] h = refl
    empty (x ∷ xs) h = absurd (false≢true h)

not_true : (b : Bool) → ¬ (b ≡ true) → b ≡ false
not_true true h = absurd (h refl)
not_true false h = refl

test_false : (b c : Bool) (A : Type 0) → Exact b A → b ≡ false → (c ≡ true → A) → c ≡ false
test_false b c A e h f = not_true c (λ k. false≢true (sym h ∙ e.1 (f k)))

pub chosen_arithmetic : (p : Problem) (f g : Formula) (a : List Bool) (r : Bool) → IsFitFormula p f → AreSymbolMarks p f a → Exact r (AreUnset a) → r ≡ true → arithmetic ≡ case_between f g
chosen_arithmetic p f g a r h k e t = rw (unset_empty p f a h k (e.0 t)) refl

pub some_symbol : (p : Problem) (f : Formula) (a : List Bool) (r : Bool) → AreSymbolMarks p f a → Exact r (AreUnset a) → r ≡ false → is_empty (symbols_in f) ≡ false
some_symbol p f a r k e t = test_false r (is_empty (symbols_in f)) (AreUnset a) e t (empty_unset p f a k)

pub chosen_within : (p : Problem) (f g : Formula) (a b : List Bool) (r : Bool) → IsFitFormula p f → AreSymbolMarks p f a → AreSymbolMarks p g b → Exact r (AreMarkedWithin a b) → r ≡ true → is_within f g ≡ true
chosen_within p f g a b r h k l e t = within_marks p f g a b h k l (e.0 t)

pub not_within : (p : Problem) (f g : Formula) (a b : List Bool) (r : Bool) → AreSymbolMarks p f a → AreSymbolMarks p g b → Exact r (AreMarkedWithin a b) → r ≡ false → is_within f g ≡ false
not_within p f g a b r k l e t = test_false r (is_within f g) (AreMarkedWithin a b) e t (marks_within p f g a b k l)

pub case_first : (f g : Formula) → is_empty (symbols_in f) ≡ false → is_within f g ≡ true → first_itself ≡ case_between f g
case_first f g h k = rw (h, k) refl

pub case_second : (f g : Formula) → is_empty (symbols_in f) ≡ false → is_within f g ≡ false → is_within g f ≡ true → second_denied ≡ case_between f g
case_second f g h k l = rw (h, k, l) refl

pub case_none : (f g : Formula) → is_empty (symbols_in f) ≡ false → is_within f g ≡ false → is_within g f ≡ false → none ≡ case_between f g
case_none f g h k l = rw (h, k, l) refl

-- what a case says of the symbols
pub arithmetic_empty : (f g : Formula) → case_between f g ≡ arithmetic → is_empty (symbols_in f) ≡ true
arithmetic_empty f g h = by (is_empty (symbols_in f)) refl (is_within f g) refl (is_within g f) refl h
  where
    by : (a : Bool) → is_empty (symbols_in f) ≡ a → (b : Bool) → is_within f g ≡ b → (c : Bool) → is_within g f ≡ c
        → cond a arithmetic (cond b first_itself (cond c second_denied none)) ≡ arithmetic → a ≡ true
    by true e b k c l h = refl
    by false e true k c l h = absurd cc
    by false e false k true l h = absurd cc
    by false e false k false l h = absurd cc

pub first_within : (f g : Formula) → case_between f g ≡ first_itself → is_within f g ≡ true
first_within f g h = by (is_empty (symbols_in f)) (is_within f g) (is_within g f) h
  where
    by : (a b c : Bool) → cond a arithmetic (cond b first_itself (cond c second_denied none)) ≡ first_itself → b ≡ true
    by true b c h = absurd cc
    by false true c h = refl
    by false false true h = absurd cc
    by false false false h = absurd cc

pub second_within : (f g : Formula) → case_between f g ≡ second_denied → is_within g f ≡ true
second_within f g h = by (is_empty (symbols_in f)) (is_within f g) (is_within g f) h
  where
    by : (a b c : Bool) → cond a arithmetic (cond b first_itself (cond c second_denied none)) ≡ second_denied → c ≡ true
    by true b c h = absurd cc
    by false true c h = absurd cc
    by false false true h = refl
    by false false false h = absurd cc
