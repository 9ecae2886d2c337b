-- The rules for a name that only inequalities bound are exact: some value of the name makes the clause true exactly
-- where some value makes one of the results true.
use Rattle.std.proofs.Common.{◌≡◌, ◌<◌, ◌≤◌, ◌+◌, ℕ, zero, ℤ, pos, negsuc, ◌+ℤ◌, ◌-ℤ◌, ◌*ℤ◌, ◌≤ℤ◌, unsigned_abs, Bool, true, false, not, ◌&&◌, ◌||◌, List, [], ◌∷◌, ◌++◌, map, get_or, max, refl, sym, ◌∙◌, ap, subst, arith}
use Rattle.std.specs.Prelude.{All, ◌⊎◌, ◌↔◌}
use Rattle.std.specs.Cmp.{first_so, second_so}
use Rattle.std.specs.List.{list_all, list_any, flat_map}
use Rattle.std.specs.Ordering.{int_eq}
use Rattle.std.proofs.lemmas.Int.{ints}
use Rattle.std.proofs.Math.Nat.{le-max_left, le-max_right}
use Rattle.std.proofs.lemmas.Bool.Decides.{Decides-int_eq, nat_tests}
use Rattle.std.proofs.lemmas.List.Folds.{list_all-append, list_all-map}
use Rattle.std.proofs.lemmas.List.Sums.{AllPass-from_list_all, list_all-from_AllPass}
use Rattle.std.proofs.lemmas.List.Elements.{All-nil, All-cons, All-map, All-weaker, filter_passes}
use mathlib.Core.Logic.{inl, inr}
use Rattle.base_integers.specs.Entry.{put}
use Rattle.linear_term.specs.Linear.{Linear, value_of, number}
use Rattle.linear_term.specs.Combination.{combination}
use Rattle.linear_term.proofs.Names.{value_of-without-put}
use Rattle.linear_term.proofs.Totals.{value_of-combination, value_of-number}
use Rattle.base_budget.specs.declared.log.Entry.TheVariants.{OneSided, Exact, Dark}
use Rattle.clause_set.specs.declared.literal.Literal.{Literal}
use Rattle.clause_set.specs.declared.literal.Literal.TheVariants.{Eq, Geq, Div, NDiv}
use Rattle.clause_set.specs.Literals.{term_of, literal_truth, clause_truth, dnf_truth}
use Rattle.clause_set.specs.Literals.{IsLiteral}
use Rattle.clause_set.specs.Met.{IsMet}
use Rattle.clause_set.specs.Names.{has, others, coefficient, remainder, is_bound, is_lower, is_upper}
use Rattle.clause_set.specs.Divisibilities.{numbers_from}
use Rattle.clause_set.specs.Shadows.{lowers, uppers, factor, greatest_factor, splinter_count}
use Rattle.clause_set.specs.Rules.{applies, has_unit, is_bounded, is_two_sided, is_exact, is_one_sided}
use Rattle.elim_rule_laws.specs.Bounds.{Bound, IsPositive, HasUnitFactor, lower_at, shadow_at, gap_at, MeetsLower, MeetsUpper, IsBetween, InRealShadow, InDarkShadow, last_splinter, IsOnSplinter}
use Rattle.elim_rule_laws.specs.ShadowResults.{shadow_term, dark_term, inequalities, with_splinter, splinters_of, one_sided_results, exact_results, dark_results}
use Rattle.elim_rule_laws.proofs.Between.{lower-met, upper-met, real_shadow, dark_shadow, exact_lower, exact_upper, splinter}
use Rattle.elim_rule_laws.proofs.ShadowLists.{all-unmap, filter-none, list_all-flat_map, list_any-flat_map, list_any-map, by_either, any_gives, any_source, any_number}
use Rattle.elim_rule_laws.proofs.Split.{bound_of, geq_decides, lower-value, lower_sign, lower-positive, upper-positive, Says, says, said, others_put, others_free}

-- ---- values of shadows
pub shadow-value : (x : ℕ) (e : List ℤ) (v : ℤ) (low up : Literal) → value_of (shadow_term x low up) (put e x v) ≡ shadow_at (bound_of x e low) (bound_of x e up)
shadow-value x e v low up =
    value_of-combination (factor x low) (factor x up) (remainder x up) (remainder x low) (put e x v)
    ∙ ap (λ (k : ℤ). (factor x low *ℤ k) +ℤ (factor x up *ℤ value_of (remainder x low) (put e x v))) (value_of-without-put (term_of up) x e v)
    ∙ ap (λ (k : ℤ). (factor x low *ℤ value_of (remainder x up) e) +ℤ (factor x up *ℤ k)) (value_of-without-put (term_of low) x e v)

pub dark-value : (x : ℕ) (e : List ℤ) (v : ℤ) (low up : Literal)
    → value_of (dark_term x low up) (put e x v) ≡ shadow_at (bound_of x e low) (bound_of x e up) -ℤ gap_at (bound_of x e low) (bound_of x e up)
dark-value x e v low up =
    let gap : ℤ = (factor x up -ℤ pos 1) *ℤ (factor x low -ℤ pos 1) in
    let whole = value_of-combination (pos 1) (negsuc 0) (shadow_term x low up) (number gap) (put e x v) in
    omega (arith, ints, whole, shadow-value x e v low up, value_of-number gap (put e x v))

-- ---- the inequalities of a shadow
abbrev InShadow : (Bound → Bound → ℤ) → List Bound → List Bound → Type 0
InShadow g ls us = All (λ l. All (λ u. pos 0 ≤ℤ g l u) us) ls

module _ (f : Literal → Literal → Linear) (g : Bound → Bound → ℤ) (bound : Literal → Bound) (e : List ℤ)
    (same : (low up : Literal) → value_of (f low up) e ≡ g (bound low) (bound up)) where
  row : (low : Literal) (ups : List Literal) → clause_truth (map (λ up. Geq (f low up)) ups) e ≡ true → All (λ u. pos 0 ≤ℤ g (bound low) u) (map bound ups)
  row low ups h =
      let each = AllPass-from_list_all (λ up. literal_truth (Geq (f low up)) e) ups (sym (list_all-map (λ l. literal_truth l e) (λ up. Geq (f low up)) ups) ∙ h) in
      All-map (λ u. pos 0 ≤ℤ g (bound low) u) bound ups
      (λ k d lt. subst (λ z. pos 0 ≤ℤ z) (same low (get_or ups k d)) ((geq_decides (value_of (f low (get_or ups k d)) e)).0 (each k d lt)))

  row_back : (low : Literal) (ups : List Literal) → All (λ u. pos 0 ≤ℤ g (bound low) u) (map bound ups) → clause_truth (map (λ up. Geq (f low up)) ups) e ≡ true
  row_back low ups h =
      let each = all-unmap (λ u. pos 0 ≤ℤ g (bound low) u) bound ups h in
      list_all-map (λ l. literal_truth l e) (λ up. Geq (f low up)) ups
      ∙ list_all-from_AllPass (λ up. literal_truth (Geq (f low up)) e) ups
      (λ k d lt. (geq_decides (value_of (f low (get_or ups k d)) e)).1 (subst (λ z. pos 0 ≤ℤ z) (sym (same low (get_or ups k d))) (each k d lt)))

  pub in_shadow : (lows ups : List Literal) → clause_truth (inequalities f lows ups) e ≡ true → InShadow g (map bound lows) (map bound ups)
  in_shadow lows ups h =
      let each = AllPass-from_list_all (λ low. clause_truth (map (λ up. Geq (f low up)) ups) e) lows (sym (list_all-flat_map (λ l. literal_truth l e) (λ low. map (λ up. Geq (f low up)) ups) lows) ∙ h) in
      All-map (λ l. All (λ u. pos 0 ≤ℤ g l u) (map bound ups)) bound lows (λ k d lt. row (get_or lows k d) ups (each k d lt))

  pub in_shadow_back : (lows ups : List Literal) → InShadow g (map bound lows) (map bound ups) → clause_truth (inequalities f lows ups) e ≡ true
  in_shadow_back lows ups h =
      let each = all-unmap (λ l. All (λ u. pos 0 ≤ℤ g l u) (map bound ups)) bound lows h in
      list_all-flat_map (λ l. literal_truth l e) (λ low. map (λ up. Geq (f low up)) ups) lows
      ∙ list_all-from_AllPass (λ low. clause_truth (map (λ up. Geq (f low up)) ups) e) lows (λ k d lt. row_back (get_or lows k d) ups (each k d lt))

-- ---- the bounds of a clause
pub lowers-positive : (x : ℕ) (e : List ℤ) (c : List Literal) → All IsPositive (map (bound_of x e) (lowers x c))
lowers-positive x e c =
    let is_low = filter_passes (is_lower x) c in
    All-map IsPositive (bound_of x e) (lowers x c) (λ k d lt. lower-positive x e (get_or (lowers x c) k d) (is_low k d lt))

pub uppers-positive : (x : ℕ) (e : List ℤ) (c : List Literal) → All IsPositive (map (bound_of x e) (uppers x c))
uppers-positive x e c =
    let is_up = filter_passes (is_upper x) c in
    All-map IsPositive (bound_of x e) (uppers x c) (λ k d lt. upper-positive x e (get_or (uppers x c) k d) (is_up k d lt))

units : (x : ℕ) (e : List ℤ) (ls : List Literal) → list_all (has_unit x) ls ≡ true → All HasUnitFactor (map (bound_of x e) ls)
units x e ls h =
    let each = AllPass-from_list_all (has_unit x) ls h in
    All-map HasUnitFactor (bound_of x e) ls (λ k d lt. one (get_or ls k d) (each k d lt))
  where
    one : (l : Literal) → has_unit x l ≡ true → HasUnitFactor (bound_of x e l)
    one l t = let n : unsigned_abs (coefficient x l) ≡ 1 = grind (arith, nat_tests) in ap pos n

-- ---- conjunctions
both_hold : (a b : Bool) → a ≡ true → b ≡ true → (a && b) ≡ true
both_hold true true f g = refl
both_hold true false f g = g
both_hold false b f g = f

or_none : (b : Bool) → (b || false) ≡ b
or_none true = refl
or_none false = refl

pub joined : (c d : List Literal) (e : List ℤ) → clause_truth c e ≡ true → clause_truth d e ≡ true → clause_truth (c ++ d) e ≡ true
joined c d e f g = list_all-append (λ l. literal_truth l e) c d ∙ both_hold (clause_truth c e) (clause_truth d e) f g

pub first_part : (c d : List Literal) (e : List ℤ) → clause_truth (c ++ d) e ≡ true → clause_truth c e ≡ true
first_part c d e h = first_so (clause_truth c e) (clause_truth d e) (sym (list_all-append (λ l. literal_truth l e) c d) ∙ h)

pub second_part : (c d : List Literal) (e : List ℤ) → clause_truth (c ++ d) e ≡ true → clause_truth d e ≡ true
second_part c d e h = second_so (clause_truth c e) (clause_truth d e) (sym (list_all-append (λ l. literal_truth l e) c d) ∙ h)

pub single : (c : List Literal) (e : List ℤ) → dnf_truth (c ∷ []) e ≡ clause_truth c e
single c e = or_none (clause_truth c e)

-- ---- where the rules apply
bounded_only : (x : ℕ) (c : List Literal) → is_bounded x c ≡ true → list_all (λ l. not (has x l) || is_bound x l) c ≡ true
bounded_only x c h = second_so (list_any (has x) c) _ h

two_sided_bounded : (x : ℕ) (c : List Literal) → is_two_sided x c ≡ true → list_all (λ l. not (has x l) || is_bound x l) c ≡ true
two_sided_bounded x c h = bounded_only x c (first_so (is_bounded x c) _ h)

exact_two_sided : (x : ℕ) (c : List Literal) → is_exact x c ≡ true → is_two_sided x c ≡ true
exact_two_sided x c h = first_so (is_two_sided x c) _ h

-- ---- the exact shadow
shadow_of_value : (x : ℕ) (e : List ℤ) (c : List Literal) (v : ℤ) → clause_truth c (put e x v) ≡ true
    → clause_truth (others x c ++ inequalities (shadow_term x) (lowers x c) (uppers x c)) (put e x v) ≡ true
shadow_of_value x e c v h =
    let s = says x e c v h in
    let real = real_shadow (map (bound_of x e) (lowers x c)) (map (bound_of x e) (uppers x c)) v (lowers-positive x e c) (uppers-positive x e c) s.between in
    joined (others x c) (inequalities (shadow_term x) (lowers x c) (uppers x c)) (put e x v) (others_put x e c v s.others)
    (in_shadow_back (shadow_term x) shadow_at (bound_of x e) (put e x v) (shadow-value x e v) (lowers x c) (uppers x c) real)

exact_met : (x : ℕ) (c : List Literal) (e : List ℤ) → IsMet (c ∷ []) x e → IsMet (exact_results x c) x e
exact_met x c e h =
    (h.0, single _ (put e x h.0) ∙ shadow_of_value x e c h.0 (sym (single c (put e x h.0)) ∙ h.1))

value_in_shadow : (x : ℕ) (e : List ℤ) (c : List Literal) → is_exact x c ≡ true
    → InRealShadow (map (bound_of x e) (lowers x c)) (map (bound_of x e) (uppers x c))
    → (v : ℤ) × IsBetween (map (bound_of x e) (lowers x c)) (map (bound_of x e) (uppers x c)) v
value_in_shadow x e c exact real =
    by_either (list_all (has_unit x) (lowers x c)) (list_all (has_unit x) (uppers x c)) _ (second_so (is_two_sided x c) _ exact)
    (λ u. exact_lower (map (bound_of x e) (lowers x c)) (map (bound_of x e) (uppers x c)) (units x e (lowers x c) u) (uppers-positive x e c) real)
    (λ u. exact_upper (map (bound_of x e) (lowers x c)) (map (bound_of x e) (uppers x c)) (lowers-positive x e c) (units x e (uppers x c) u) real)

exact_met_back : (x : ℕ) (c : List Literal) (e : List ℤ) → All IsLiteral c → is_exact x c ≡ true → IsMet (exact_results x c) x e → IsMet (c ∷ []) x e
exact_met_back x c e proper exact h =
    let all = sym (single _ (put e x h.0)) ∙ h.1 in
    let shadow = second_part (others x c) (inequalities (shadow_term x) (lowers x c) (uppers x c)) (put e x h.0) all in
    let real = in_shadow (shadow_term x) shadow_at (bound_of x e) (put e x h.0) (shadow-value x e h.0) (lowers x c) (uppers x c) shadow in
    let rest = others_free x e c h.0 (first_part (others x c) (inequalities (shadow_term x) (lowers x c) (uppers x c)) (put e x h.0) all) in
    let found = value_in_shadow x e c exact real in (
      found.0,
      single c (put e x found.0)
          ∙ said x e c found.0 proper (two_sided_bounded x c (exact_two_sided x c exact)) (record { others = rest; between = found.1 }),
    )

pub exact-met : (x : ℕ) (c : List Literal) (e : List ℤ) → All IsLiteral c → applies x c Exact ≡ true → IsMet (c ∷ []) x e ↔ IsMet (exact_results x c) x e
unfolding applies
exact-met x c e proper h = (exact_met x c e, exact_met_back x c e proper h)

-- ---- bounds on one side
and_false : (a b : Bool) → (a && b) ≡ false → (a ≡ false) ⊎ (b ≡ false)
and_false true b h = inr h
and_false false b h = inl refl

is_not : (b : Bool) → not b ≡ true → b ≡ false
is_not true h = sym h
is_not false h = refl

no_side : (x : ℕ) (c : List Literal) → is_one_sided x c ≡ true → (list_any (is_lower x) c ≡ false) ⊎ (list_any (is_upper x) c ≡ false)
no_side x c h =
    let bounded : is_bounded x c ≡ true = first_so (is_bounded x c) _ h in
    let not_two : is_two_sided x c ≡ false = is_not (is_two_sided x c) (second_so (is_bounded x c) _ h) in
    and_false (list_any (is_lower x) c) (list_any (is_upper x) c) (sym (ap (λ b. b && (list_any (is_lower x) c && list_any (is_upper x) c)) bounded) ∙ not_two)

value_of_side : (x : ℕ) (e : List ℤ) (c : List Literal) → (list_any (is_lower x) c ≡ false) ⊎ (list_any (is_upper x) c ≡ false)
    → (v : ℤ) × IsBetween (map (bound_of x e) (lowers x c)) (map (bound_of x e) (uppers x c)) v
value_of_side x e c (inl none) =
    let found = upper-met (map (bound_of x e) (uppers x c)) (uppers-positive x e c) in (
      found.0,
      record {
        above = subst (λ ls. All (MeetsLower found.0) (map (bound_of x e) ls)) (sym (filter-none (is_lower x) c none)) (All-nil (MeetsLower found.0));
        below = found.1;
      },
    )
value_of_side x e c (inr none) =
    let found = lower-met (map (bound_of x e) (lowers x c)) (lowers-positive x e c) in (
      found.0,
      record {
        above = found.1;
        below = subst (λ ls. All (MeetsUpper found.0) (map (bound_of x e) ls)) (sym (filter-none (is_upper x) c none)) (All-nil (MeetsUpper found.0));
      },
    )

one_sided_met : (x : ℕ) (c : List Literal) (e : List ℤ) → IsMet (c ∷ []) x e → IsMet (one_sided_results x c) x e
one_sided_met x c e h =
    (h.0, single (others x c) (put e x h.0) ∙ others_put x e c h.0 (says x e c h.0 (sym (single c (put e x h.0)) ∙ h.1)).others)

one_sided_met_back : (x : ℕ) (c : List Literal) (e : List ℤ) → All IsLiteral c → is_one_sided x c ≡ true → IsMet (one_sided_results x c) x e → IsMet (c ∷ []) x e
one_sided_met_back x c e proper one h =
    let rest = others_free x e c h.0 (sym (single (others x c) (put e x h.0)) ∙ h.1) in
    let found = value_of_side x e c (no_side x c one) in (
      found.0,
      single c (put e x found.0)
          ∙ said x e c found.0 proper (bounded_only x c (first_so (is_bounded x c) _ one)) (record { others = rest; between = found.1 }),
    )

pub one_sided-met : (x : ℕ) (c : List Literal) (e : List ℤ) → All IsLiteral c → applies x c OneSided ≡ true → IsMet (c ∷ []) x e ↔ IsMet (one_sided_results x c) x e
unfolding applies
one_sided-met x c e proper h = (one_sided_met x c e, one_sided_met_back x c e proper h)

-- ---- the dark shadow and its splinters
greatest-most : (x : ℕ) (e : List ℤ) (ls : List Literal) → All (λ u. u.factor ≤ℤ pos (greatest_factor x ls)) (map (bound_of x e) ls)
greatest-most x e [] = All-nil (λ u. u.factor ≤ℤ pos 0)
greatest-most x e (l ∷ ls) =
    let n : ℕ = unsigned_abs (coefficient x l) in
    let m : ℕ = greatest_factor x ls in
    let here : n ≤ max n m = le-max_left n m in
    let later : m ≤ max n m = le-max_right n m in
    All-cons (λ u. u.factor ≤ℤ pos (max n m)) (bound_of x e l) (map (bound_of x e) ls) (omega (arith, ints))
    (All-weaker (λ u. u.factor ≤ℤ pos m) (λ u. u.factor ≤ℤ pos (max n m)) (λ u h. omega (arith, ints)) (map (bound_of x e) ls) (greatest-most x e ls))

lower-term : (x : ℕ) (e : List ℤ) (v : ℤ) (l : Literal) → is_lower x l ≡ true → value_of (term_of l) (put e x v) ≡ lower_at v (bound_of x e l)
lower-term x e v (Eq t) h = absurd (cc)
lower-term x e v (Geq t) h = lower-value x e v t (lower_sign x (Geq t) h)
lower-term x e v (Div d t) h = absurd (cc)
lower-term x e v (NDiv d t) h = absurd (cc)

natural : (k : ℤ) → pos 0 ≤ℤ k → (n : ℕ) × (k ≡ pos n)
natural (pos n) h = (n, refl)
natural (negsuc n) h = absurd (omega (arith, ints))

count_above : (n : ℕ) (k : ℤ) → pos n ≤ℤ k → n < unsigned_abs (k +ℤ pos 1)
count_above n (pos m) h = omega (arith, ints)
count_above n (negsuc m) h = absurd (omega (arith, ints))

-- the splinter b·x + s = n is true where b·x + s is n
splinter-true : (c : List Literal) (low : Literal) (n : ℕ) (e : List ℤ) → clause_truth c e ≡ true → value_of (term_of low) e ≡ pos n → clause_truth (with_splinter c low n) e ≡ true
splinter-true c low n e h is =
    let term : Linear = combination (pos 1) (term_of low) (negsuc 0) (number (pos n)) in
    let zero : value_of term e ≡ pos 0 = omega (arith, ints, value_of-combination (pos 1) (negsuc 0) (term_of low) (number (pos n)) e, value_of-number (pos n) e) in
    joined c (Eq term ∷ []) e h (both_hold (int_eq (value_of term e) (pos 0)) true ((Decides-int_eq (value_of term e) (pos 0)).1 zero) refl)

splinter_of_bound : (x : ℕ) (e : List ℤ) (c : List Literal) (v : ℤ) (a : ℤ) (b : Bound) → clause_truth c (put e x v) ≡ true
    → pos 0 ≤ℤ lower_at v b → lower_at v b ≤ℤ last_splinter a b.factor
    → (low : Literal) → is_lower x low ≡ true → bound_of x e low ≡ b → dnf_truth (splinters_of x c a low) (put e x v) ≡ true
splinter_of_bound x e c v a b h at_least at_most low is_low same =
    let n = natural (lower_at v b) at_least in
    let value : value_of (term_of low) (put e x v) ≡ pos n.0 = lower-term x e v low is_low ∙ ap (lower_at v) same ∙ n.1 in
    let within : pos n.0 ≤ℤ last_splinter a b.factor = subst (λ z. z ≤ℤ last_splinter a b.factor) n.1 at_most in
    let count : n.0 < splinter_count a (factor x low) = subst (λ z. n.0 < splinter_count a z) (sym (ap (λ z. z.factor) same)) (count_above n.0 (last_splinter a b.factor) within) in
    let start : zero + n.0 ≡ n.0 = omega arith in
    list_any-map (λ d. clause_truth d (put e x v)) (with_splinter c low) (numbers_from 0 (splinter_count a (factor x low)))
    ∙ any_number (λ i. clause_truth (with_splinter c low i) (put e x v)) zero n.0 (splinter_count a (factor x low)) count
    (ap (λ i. clause_truth (with_splinter c low i) (put e x v)) start ∙ splinter-true c low n.0 (put e x v) h value)

some_splinter : (x : ℕ) (e : List ℤ) (c : List Literal) (v : ℤ) (a : ℤ) → clause_truth c (put e x v) ≡ true → IsOnSplinter a (map (bound_of x e) (lowers x c)) v
    → dnf_truth (flat_map (splinters_of x c a) (lowers x c)) (put e x v) ≡ true
some_splinter x e c v a h s =
    let at = s.among in
    list_any-flat_map (λ d. clause_truth d (put e x v)) (splinters_of x c a) (lowers x c)
    ∙ any_source (bound_of x e) (λ l. is_lower x l ≡ true) (λ low. dnf_truth (splinters_of x c a low) (put e x v)) s.bound
    (splinter_of_bound x e c v a s.bound h s.at_least s.at_most) (lowers x c) (filter_passes (is_lower x) c) at.0 at.1 at.2

or_first : (a b : Bool) → a ≡ true → (a || b) ≡ true
or_first true b h = refl
or_first false b h = absurd (cc)

or_second : (a b : Bool) → b ≡ true → (a || b) ≡ true
or_second true b h = refl
or_second false b h = h

dark_of_value : (x : ℕ) (e : List ℤ) (c : List Literal) (v : ℤ) → clause_truth c (put e x v) ≡ true → dnf_truth (dark_results x c) (put e x v) ≡ true
dark_of_value x e c v h =
    cases (splinter (map (bound_of x e) (lowers x c)) (map (bound_of x e) (uppers x c)) (pos (greatest_factor x (uppers x c))) v (lowers-positive x e c) (uppers-positive x e c) (greatest-most x e (uppers x c)) s.between)
  where
    s : Says x e c v
    s = says x e c v h

    cases : InDarkShadow (map (bound_of x e) (lowers x c)) (map (bound_of x e) (uppers x c)) ⊎ IsOnSplinter (pos (greatest_factor x (uppers x c))) (map (bound_of x e) (lowers x c)) v
        → dnf_truth (dark_results x c) (put e x v) ≡ true
    cases (inl dark) =
        or_first _ _
        (joined (others x c) (inequalities (dark_term x) (lowers x c) (uppers x c)) (put e x v) (others_put x e c v s.others)
        (in_shadow_back (dark_term x) (λ l u. shadow_at l u -ℤ gap_at l u) (bound_of x e) (put e x v) (dark-value x e v) (lowers x c) (uppers x c) dark))
    cases (inr on) = or_second _ _ (some_splinter x e c v (pos (greatest_factor x (uppers x c))) h on)

dark_met : (x : ℕ) (c : List Literal) (e : List ℤ) → IsMet (c ∷ []) x e → IsMet (dark_results x c) x e
dark_met x c e h = (h.0, dark_of_value x e c h.0 (sym (single c (put e x h.0)) ∙ h.1))

-- a splinter is true only where the clause is
clause_of_splinter : (x : ℕ) (c : List Literal) (a : ℤ) (e : List ℤ) (ls : List Literal) → dnf_truth (flat_map (splinters_of x c a) ls) e ≡ true → clause_truth c e ≡ true
clause_of_splinter x c a e ls h =
    any_gives (λ low. dnf_truth (splinters_of x c a low) e) (clause_truth c e ≡ true) ls (λ k d lt. of_bound (get_or ls k d))
    (sym (list_any-flat_map (λ d. clause_truth d e) (splinters_of x c a) ls) ∙ h)
  where
    of_bound : (low : Literal) → dnf_truth (splinters_of x c a low) e ≡ true → clause_truth c e ≡ true
    of_bound low g =
        any_gives (λ i. clause_truth (with_splinter c low i) e) (clause_truth c e ≡ true) (numbers_from 0 (splinter_count a (factor x low)))
        (λ k d lt t. first_part c (Eq (combination (pos 1) (term_of low) (negsuc 0) (number (pos (get_or (numbers_from 0 (splinter_count a (factor x low))) k d)))) ∷ []) e t)
        (sym (list_any-map (λ d. clause_truth d e) (with_splinter c low) (numbers_from 0 (splinter_count a (factor x low)))) ∙ g)

value_of_dark : (x : ℕ) (c : List Literal) (e : List ℤ) (v : ℤ) → All IsLiteral c → is_two_sided x c ≡ true
    → clause_truth (others x c ++ inequalities (dark_term x) (lowers x c) (uppers x c)) (put e x v) ≡ true → IsMet (c ∷ []) x e
value_of_dark x c e v proper two all =
    let shadow = second_part (others x c) (inequalities (dark_term x) (lowers x c) (uppers x c)) (put e x v) all in
    let dark = in_shadow (dark_term x) (λ l u. shadow_at l u -ℤ gap_at l u) (bound_of x e) (put e x v) (dark-value x e v) (lowers x c) (uppers x c) shadow in
    let rest = others_free x e c v (first_part (others x c) (inequalities (dark_term x) (lowers x c) (uppers x c)) (put e x v) all) in
    let found = dark_shadow (map (bound_of x e) (lowers x c)) (map (bound_of x e) (uppers x c)) (lowers-positive x e c) (uppers-positive x e c) dark in
    (found.0, single c (put e x found.0) ∙ said x e c found.0 proper (two_sided_bounded x c two) (record { others = rest; between = found.1 }))

dark_met_back : (x : ℕ) (c : List Literal) (e : List ℤ) → All IsLiteral c → is_two_sided x c ≡ true → IsMet (dark_results x c) x e → IsMet (c ∷ []) x e
dark_met_back x c e proper two h =
    by_either (clause_truth (others x c ++ inequalities (dark_term x) (lowers x c) (uppers x c)) (put e x h.0))
    (dnf_truth (flat_map (splinters_of x c (pos (greatest_factor x (uppers x c)))) (lowers x c)) (put e x h.0)) (IsMet (c ∷ []) x e) h.1
    (value_of_dark x c e h.0 proper two)
    (λ t. (h.0, single c (put e x h.0) ∙ clause_of_splinter x c (pos (greatest_factor x (uppers x c))) (put e x h.0) (lowers x c) t))

pub dark-met : (x : ℕ) (c : List Literal) (e : List ℤ) → All IsLiteral c → applies x c Dark ≡ true → IsMet (c ∷ []) x e ↔ IsMet (dark_results x c) x e
unfolding applies
dark-met x c e proper h = (dark_met x c e, dark_met_back x c e proper h)
