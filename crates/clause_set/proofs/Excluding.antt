-- A bound that another literal leaves no value makes a conjunction false.
use Rattle.std.proofs.Common.{◌≡◌, ℤ, pos, neg_ℤ, ◌+ℤ◌, ◌≤ℤ◌, Bool, true, false, ◌&&◌, cond, int_lt, List, map, ◌++◌, Option, Some, None, refl, sym, ◌∙◌, ap, arith}
use Rattle.std.specs.List.{list_any}
use Rattle.std.proofs.lemmas.Int.{ints}
use Rattle.linear_term.specs.Linear.{Linear}
use Rattle.linear_term.proofs.Totals.{by_test}
use Rattle.clause_set.specs.declared.literal.Literal.{Literal}
use Rattle.clause_set.specs.declared.literal.Literal.TheVariants.{Eq, Geq, Div, NDiv}
use Rattle.clause_set.specs.Normal.{negated}
use Rattle.clause_set.specs.Order.{literal_cmp, sorted_once}
use Rattle.clause_set.specs.Contrary.{excludes, is_excluded}
use Rattle.clause_set.specs.Clauses.{same_pairs, slack_of, slack, bounds_apart, is_negative, is_void, tightened, compact}
use Rattle.clause_set.proofs.Across.{among_left, among_right}
use Rattle.clause_set.proofs.ClauseTruth.{AtMost}
use Rattle.clause_set.proofs.Covers.{Among, any_from, any_with, slack-at}
use Rattle.clause_set.proofs.Intervals.{slack_of-bound}
use Rattle.clause_set.proofs.Slack.{negative_sum, opposite_twice}

-- ---- what excludes a bound
and_true : (a : Bool) → (a && true) ≡ a
and_true true = refl
and_true false = refl

and_false : (a : Bool) → (a && false) ≡ false
and_false true = refl
and_false false = refl

pub excludes_bound : (t s : Linear) → excludes t (Geq s) ≡ (int_lt s.constant (neg_ℤ t.constant) && same_pairs s.pairs (negated t.pairs))
excludes_bound t s =
    by_test (λ z. is_negative (bounds_apart z (Some t.constant)) ≡ (int_lt s.constant (neg_ℤ t.constant) && same_pairs s.pairs (negated t.pairs))) (same_pairs s.pairs (negated t.pairs)) (Some s.constant) None
    (λ y. sym (negative_sum s.constant t.constant) ∙ sym (ap (λ b. int_lt s.constant (neg_ℤ t.constant) && b) y ∙ and_true (int_lt s.constant (neg_ℤ t.constant))))
    (λ n. sym (ap (λ b. int_lt s.constant (neg_ℤ t.constant) && b) n ∙ and_false (int_lt s.constant (neg_ℤ t.constant))))

pub excludes_opposite : (t s : Linear) → same_pairs s.pairs (negated t.pairs) ≡ true → excludes t (Eq s) ≡ int_lt s.constant (neg_ℤ t.constant)
excludes_opposite t s y =
    ap (λ b. is_negative (bounds_apart (cond b (Some s.constant) (cond (same_pairs s.pairs (negated (negated t.pairs))) (Some (neg_ℤ s.constant)) None)) (Some t.constant))) y
    ∙ sym (negative_sum s.constant t.constant)

above_sum : (j k : ℤ) → int_lt (neg_ℤ j +ℤ k) (pos 0) ≡ int_lt k j
above_sum j k = grind (arith, ints)

pub excludes_same : (t s : Linear) → same_pairs s.pairs (negated t.pairs) ≡ false → excludes t (Eq s) ≡ (int_lt t.constant s.constant && same_pairs s.pairs t.pairs)
excludes_same t s n =
    ap (λ b. is_negative (bounds_apart (cond b (Some s.constant) (cond (same_pairs s.pairs (negated (negated t.pairs))) (Some (neg_ℤ s.constant)) None)) (Some t.constant))) n
    ∙ ap (λ b. is_negative (bounds_apart (cond b (Some (neg_ℤ s.constant)) None) (Some t.constant))) (opposite_twice s.pairs t.pairs)
    ∙ by_test (λ z. is_negative (bounds_apart z (Some t.constant)) ≡ (int_lt t.constant s.constant && same_pairs s.pairs t.pairs)) (same_pairs s.pairs t.pairs) (Some (neg_ℤ s.constant)) None
    (λ y. above_sum s.constant t.constant ∙ sym (ap (λ b. int_lt t.constant s.constant && b) y ∙ and_true (int_lt t.constant s.constant)))
    (λ m. sym (ap (λ b. int_lt t.constant s.constant && b) m ∙ and_false (int_lt t.constant s.constant)))

pub ruleset exclusions = (excludes_bound, excludes_opposite, excludes_same)

-- ---- a conjunction with such a bound
-- lower bounds of a form and of its opposite that leave no value, and lesser ones
below_zero : (a b o : Option ℤ) (j k : ℤ) → o ≡ Some k → AtMost a j → AtMost b k → is_negative (bounds_apart o (Some j)) ≡ true → is_negative (bounds_apart a b) ≡ true
below_zero None b o j k e h g n = absurd h
below_zero (Some a) None o j k e h g n = absurd g
below_zero (Some a) (Some b) o j k e h g n =
    let less : int_lt (k +ℤ j) (pos 0) ≡ true = ap (λ z. is_negative (bounds_apart z (Some j))) (sym e) ∙ n in
    sum less h g
  where
    sum : int_lt (k +ℤ j) (pos 0) ≡ true → a ≤ℤ j → b ≤ℤ k → int_lt (a +ℤ b) (pos 0) ≡ true
    sum less h g = grind (arith, ints)

some_of : (P : Type 0) (o : Option ℤ) (j : ℤ) → is_negative (bounds_apart o (Some j)) ≡ true → ((k : ℤ) → o ≡ Some k → P) → P
some_of P None j n f = absurd cc
some_of P (Some k) j n f = f k refl

void_bound : (ls : List Literal) (t : Linear) (l : Literal) → Among (Geq t) ls → Among l ls → excludes t l ≡ true → is_void ls (Geq t) ≡ true
void_bound ls t l a b x =
    some_of (is_void ls (Geq t) ≡ true) (slack_of l (negated t.pairs)) t.constant x
    (λ k e. below_zero (slack ls t.pairs) (slack ls (negated t.pairs)) (slack_of l (negated t.pairs)) t.constant k e
    (slack-at (Geq t) ls t.pairs t.constant a (slack_of-bound t)) (slack-at l ls (negated t.pairs) k b e) x)

excluded_void : (c d : List Literal) (m : Literal) → Among m d → is_excluded c m ≡ true → is_void (c ++ d) m ≡ true
excluded_void c d (Eq t) a x = absurd cc
excluded_void c d (Geq t) a x =
    let w = any_from (excludes t) c x in
    void_bound (c ++ d) t w.element (among_right (Geq t) c d a) (among_left w.element c d w.among) w.passes
excluded_void c d (Div b t) a x = absurd cc
excluded_void c d (NDiv b t) a x = absurd cc

pub compact_contrary : (c d : List Literal) → list_any (is_excluded c) d ≡ true → compact (c ++ d) ≡ None
unfolding compact
compact_contrary c d x =
    let w = any_from (is_excluded c) d x in
    let void : list_any (is_void (c ++ d)) (c ++ d) ≡ true =
    any_with (is_void (c ++ d)) w.element (c ++ d) (among_right w.element c d w.among) (excluded_void c d w.element w.among w.passes) in
    ap (λ b. cond b None (Some (sorted_once literal_cmp (map (tightened (c ++ d)) (c ++ d))))) void
