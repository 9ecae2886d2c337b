-- The rules for a name that only inequalities bound take it out of the clause, or leave an equation with it.
use Rattle.std.proofs.Common.{◌≡◌, ◌<◌, ◌≤◌, ◌+◌, ◌*◌, ℕ, ℤ, pos, negsuc, Bool, true, false, not, cond, ◌||◌, nat_eq, List, [], ◌∷◌, ◌++◌, map, filter, get_or, refl, sym, ◌∙◌, ap, arith}
use Rattle.std.specs.Prelude.{All, count_by}
use Rattle.std.specs.Cmp.{first_so, second_so}
use Rattle.std.specs.List.{list_any, flat_map}
use Rattle.std.proofs.lemmas.Int.{ints}
use Rattle.std.proofs.lemmas.List.Folds.{list_any-append, list_any_none}
use Rattle.std.proofs.lemmas.List.Sums.{AllPass-from_list_all}
use Rattle.std.proofs.lemmas.List.Elements.{All-nil, All-cons, All-append, All-map, filter_passes}
use Rattle.linear_term.specs.Linear.{Linear, coef_of, mentions, without, number}
use Rattle.linear_term.specs.Combination.{combination}
use Rattle.linear_term.proofs.Names.{without-free, combination-unmentioned, coef_of-unmentioned}
use Rattle.linear_term.proofs.Totals.{by_test, coef_of-combination, coef_of-number}
use Rattle.base_budget.specs.declared.log.Entry.TheVariants.{OneSided, Exact, Dark}
use Rattle.clause_set.specs.declared.literal.Literal.{Literal}
use Rattle.clause_set.specs.declared.literal.Literal.TheVariants.{Eq, Geq, Div, NDiv}
use Rattle.clause_set.specs.Literals.{term_of}
use Rattle.clause_set.specs.Names.{has, others, coefficient, remainder, is_equation, is_bound, is_lower, is_divisibility, is_indivisibility}
use Rattle.clause_set.specs.Divisibilities.{numbers_from}
use Rattle.clause_set.specs.Shadows.{lowers, uppers, factor, greatest_factor, splinter_count}
use Rattle.clause_set.specs.Rules.{applies, is_bounded, is_two_sided, is_one_sided, measure}
use Rattle.elim_rule_laws.specs.ShadowResults.{shadow_term, dark_term, inequalities, with_splinter, splinters_of, one_sided_results, exact_results, dark_results}
use Rattle.elim_rule_laws.proofs.ShadowLists.{All-flat_map}
use Rattle.elim_rule_laws.proofs.Split.{lower_sign}

-- ---- terms without x
number-free : (k : ℤ) (x : ℕ) → mentions (number k) x ≡ false
unfolding mentions
number-free k x = refl

shadow-free : (x : ℕ) (low up : Literal) → mentions (shadow_term x low up) x ≡ false
shadow-free x low up = combination-unmentioned (factor x low) (factor x up) (remainder x up) (remainder x low) x (without-free (term_of up) x) (without-free (term_of low) x)

dark-free : (x : ℕ) (low up : Literal) → mentions (dark_term x low up) x ≡ false
dark-free x low up = combination-unmentioned (pos 1) (negsuc 0) (shadow_term x low up) (number _) x (shadow-free x low up) (number-free _ x)

is_not : (b : Bool) → not b ≡ true → b ≡ false
is_not true h = sym h
is_not false h = refl

others-free : (x : ℕ) (c : List Literal) → All (λ l. has x l ≡ false) (others x c)
others-free x c = let free = filter_passes (λ l. not (has x l)) c in λ k d lt. is_not (has x (get_or (others x c) k d)) (free k d lt)

inequalities-free : (x : ℕ) (f : Literal → Literal → Linear) → ((low up : Literal) → mentions (f low up) x ≡ false) → (lows ups : List Literal)
    → All (λ l. has x l ≡ false) (inequalities f lows ups)
inequalities-free x f free lows ups =
    All-flat_map (λ l. has x l ≡ false) (λ low. map (λ up. Geq (f low up)) ups) lows
    (λ k d lt. All-map (λ l. has x l ≡ false) (λ up. Geq (f (get_or lows k d) up)) ups (λ j e le. free (get_or lows k d) (get_or ups j e)))

-- ---- measures
free-measure : (x : ℕ) (c : List Literal) → All (λ l. has x l ≡ false) c → measure x c ≡ 0
unfolding measure
free-measure x c free =
    ap (λ b. cond b (cond (list_any (is_equation x) c) 1 (2 + 2 * count_by (is_indivisibility x) c + count_by (is_divisibility x) c)) 0) (list_any_none (has x) c free)

equation-measure : (x : ℕ) (c : List Literal) → list_any (is_equation x) c ≡ true → measure x c ≤ 1
unfolding measure
equation-measure x c e =
    by_test (λ n. n ≤ 1) (list_any (has x) c) (cond (list_any (is_equation x) c) 1 (2 + 2 * count_by (is_indivisibility x) c + count_by (is_divisibility x) c)) 0
    (λ _. let one = ap (λ b. cond b 1 (2 + 2 * count_by (is_indivisibility x) c + count_by (is_divisibility x) c)) e in omega (arith, one))
    (λ _. omega arith)

not_equation : (x : ℕ) (l : Literal) → (not (has x l) || is_bound x l) ≡ true → is_equation x l ≡ false
not_equation x (Eq t) h = by (mentions t x) h
  where
    by : (b : Bool) → (not b || false) ≡ true → b ≡ false
    by true h = sym h
    by false h = refl
not_equation x (Geq t) h = refl
not_equation x (Div d t) h = refl
not_equation x (NDiv d t) h = refl

bounded-measure : (x : ℕ) (c : List Literal) → is_bounded x c ≡ true → 2 ≤ measure x c
unfolding measure
bounded-measure x c h =
    let some : list_any (has x) c ≡ true = first_so (list_any (has x) c) _ h in
    let bounds = AllPass-from_list_all (λ l. not (has x l) || is_bound x l) c (second_so (list_any (has x) c) _ h) in
    let none : list_any (is_equation x) c ≡ false = list_any_none (is_equation x) c (λ k d lt. not_equation x (get_or c k d) (bounds k d lt)) in
    let rest : ℕ = 2 + 2 * count_by (is_indivisibility x) c + count_by (is_divisibility x) c in
    let first = ap (λ b. cond b (cond (list_any (is_equation x) c) 1 rest) 0) some in
    let second = ap (λ b. cond b 1 rest) none in
    omega (arith, first, second)

-- ---- the rules
falls_free : (x : ℕ) (c r : List Literal) → is_bounded x c ≡ true → All (λ l. has x l ≡ false) r → measure x r < measure x c
falls_free x c r h free = let m = bounded-measure x c h in omega (arith, free-measure x r free)

one_sided_bounded : (x : ℕ) (c : List Literal) → is_one_sided x c ≡ true → is_bounded x c ≡ true
one_sided_bounded x c h = first_so (is_bounded x c) _ h

two_sided_bounded : (x : ℕ) (c : List Literal) → is_two_sided x c ≡ true → is_bounded x c ≡ true
two_sided_bounded x c h = first_so (is_bounded x c) _ h

pub one_sided-falls : (x : ℕ) (c : List Literal) → applies x c OneSided ≡ true → All (λ r. measure x r < measure x c) (one_sided_results x c)
unfolding applies
one_sided-falls x c h =
    All-cons (λ r. measure x r < measure x c) (others x c) [] (falls_free x c (others x c) (one_sided_bounded x c h) (others-free x c)) (All-nil (λ r. measure x r < measure x c))

pub exact-falls : (x : ℕ) (c : List Literal) → applies x c Exact ≡ true → All (λ r. measure x r < measure x c) (exact_results x c)
unfolding applies
exact-falls x c h =
    let ls = inequalities (shadow_term x) (lowers x c) (uppers x c) in
    All-cons (λ r. measure x r < measure x c) (others x c ++ ls) []
    (falls_free x c (others x c ++ ls) (two_sided_bounded x c (first_so (is_two_sided x c) _ h))
    (All-append (λ l. has x l ≡ false) (others x c) ls (others-free x c) (inequalities-free x (shadow_term x) (shadow-free x) (lowers x c) (uppers x c))))
    (All-nil (λ r. measure x r < measure x c))

-- the splinter is an equation with x
splinter-coefficient : (x : ℕ) (low : Literal) (i : ℕ) → coef_of (combination (pos 1) (term_of low) (negsuc 0) (number (pos i))) x ≡ coefficient x low
splinter-coefficient x low i =
    omega (arith, ints, coef_of-combination (pos 1) (negsuc 0) (term_of low) (number (pos i)) x, coef_of-number (pos i) x)

splinter-mentions : (x : ℕ) (low : Literal) (i : ℕ) → is_lower x low ≡ true → mentions (combination (pos 1) (term_of low) (negsuc 0) (number (pos i))) x ≡ true
splinter-mentions x low i h = by (mentions (combination (pos 1) (term_of low) (negsuc 0) (number (pos i))) x) refl
  where
    by : (b : Bool) → mentions (combination (pos 1) (term_of low) (negsuc 0) (number (pos i))) x ≡ b → b ≡ true
    by true e = refl
    by false e =
        let zero = coef_of-unmentioned (combination (pos 1) (term_of low) (negsuc 0) (number (pos i))) x e in
        let sign = lower_sign x low h in
        absurd (omega (arith, ints, zero, splinter-coefficient x low i))

or_true : (b : Bool) → (b || true) ≡ true
or_true true = refl
or_true false = refl

splinter-equation : (x : ℕ) (c : List Literal) (low : Literal) (i : ℕ) → is_lower x low ≡ true → list_any (is_equation x) (with_splinter c low i) ≡ true
splinter-equation x c low i h =
    let term : Linear = combination (pos 1) (term_of low) (negsuc 0) (number (pos i)) in
    list_any-append (is_equation x) c (Eq term ∷ [])
    ∙ ap (λ b. list_any (is_equation x) c || (b || false)) (splinter-mentions x low i h)
    ∙ or_true (list_any (is_equation x) c)

splinters-fall : (x : ℕ) (c : List Literal) (a : ℤ) → is_bounded x c ≡ true → All (λ r. measure x r < measure x c) (flat_map (splinters_of x c a) (lowers x c))
splinters-fall x c a h =
    let is_low = filter_passes (is_lower x) c in
    All-flat_map (λ r. measure x r < measure x c) (splinters_of x c a) (lowers x c)
    (λ k d lt. All-map (λ r. measure x r < measure x c) (with_splinter c (get_or (lowers x c) k d)) (numbers_from 0 (splinter_count a (factor x (get_or (lowers x c) k d))))
    (λ j e le. one (get_or (lowers x c) k d) (get_or (numbers_from 0 (splinter_count a (factor x (get_or (lowers x c) k d)))) j e) (is_low k d lt)))
  where
    one : (low : Literal) (i : ℕ) → is_lower x low ≡ true → measure x (with_splinter c low i) < measure x c
    one low i l =
        let m = bounded-measure x c h in
        let s = equation-measure x (with_splinter c low i) (splinter-equation x c low i l) in
        omega arith

pub dark-falls : (x : ℕ) (c : List Literal) → applies x c Dark ≡ true → All (λ r. measure x r < measure x c) (dark_results x c)
unfolding applies
dark-falls x c h =
    let ls = inequalities (dark_term x) (lowers x c) (uppers x c) in
    All-cons (λ r. measure x r < measure x c) (others x c ++ ls) (flat_map (splinters_of x c (pos (greatest_factor x (uppers x c)))) (lowers x c))
    (falls_free x c (others x c ++ ls) (two_sided_bounded x c h)
    (All-append (λ l. has x l ≡ false) (others x c) ls (others-free x c) (inequalities-free x (dark_term x) (dark-free x) (lowers x c) (uppers x c))))
    (splinters-fall x c (pos (greatest_factor x (uppers x c))) (two_sided_bounded x c h))
