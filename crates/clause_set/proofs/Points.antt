-- Two opposite bounds of a clause leave more than one value, so a clause is its own form; a conjunction has none only where
-- a literal is false by itself or an interval is empty.
use Rattle.std.proofs.Common.{◌≡◌, ℕ, ℤ, pos, neg_ℤ, ◌+ℤ◌, ◌≤ℤ◌, ◌<ℤ◌, true, false, ◌||◌, cond, List, [], ◌∷◌, map, Option, Some, None, inl, inr, refl, sym, ◌∙◌, ap, subst, arith}
use Rattle.std.specs.Prelude.{◌⊎◌, ◌↔◌}
use Rattle.std.specs.List.{AllByRecursion, list_any}
use Rattle.std.specs.List.Sorted.{IsStrictlySortedBy}
use Rattle.std.specs.Ordering.{int_eq}
use Rattle.std.specs.declared.cmp.Ordering.{Ordering}
use Rattle.std.specs.declared.cmp.Ordering.TheVariants.{Less}
use Rattle.std.specs.Prelude.{int_lt}
use Rattle.std.proofs.lemmas.Int.{ints, by_lt_z}
use Rattle.std.proofs.lemmas.Bool.Decides.{Decides-int_eq}
use Rattle.linear_term.specs.Linear.{Linear}
use Rattle.linear_term.proofs.Totals.{by_test}
use Rattle.clause_set.specs.declared.literal.Literal.{Literal}
use Rattle.clause_set.specs.declared.literal.Literal.TheVariants.{Eq, Geq, Div, NDiv}
use Rattle.clause_set.specs.Clause.{IsClause}
use Rattle.clause_set.specs.Primitive.{LeadsPositive, normals, HasEmptyInterval}
use Rattle.clause_set.specs.Normal.{negated, normal_of}
use Rattle.clause_set.specs.Order.{literal_cmp, is_literal, insert_at, insert_once, inserted, sorted_once}
use Rattle.clause_set.specs.Normal.{turned}
use Rattle.clause_set.specs.Clauses.{same_pairs, slack_of, slack, bounds_apart, extent, is_negative, is_zero, is_void, with_constant, tightened, compact, is_false, clause_of}
use Rattle.clause_set.proofs.ClauseTruth.{AtMost}
use Rattle.clause_set.proofs.Covers.{Among, any_from, any_with, by_no, slack-at, slack-witness}
use Rattle.clause_set.proofs.Orders.{same_pairs-equal}
use Rattle.clause_set.proofs.Sorted.{all_among}
use Rattle.clause_set.proofs.Intervals.{Fits, AreIntervals, clause-intervals, one_equation, not_both, not_opposite, own_slack, held, equation-slack, bound-slack, extent-negated, negated_twice, slack_of-own, slack_of-bound, slack_of-opposite}
use Rattle.clause_set.proofs.Primitive.{IsNormalLiteral}
use Rattle.clause_set.proofs.Owned.{clause-normal, normals-own, none_false}

-- ---- the extent of a form that some literal bounds is not negative
void-at : (ls : List Literal) (m : Literal) (p : List (ℕ × ℤ)) (k : ℤ) → slack_of m p ≡ Some k → is_void ls m ≡ is_negative (extent ls p)
void-at ls (Eq t) p k e =
    equation-slack (is_negative (extent ls t.pairs) ≡ is_negative (extent ls p)) t p k e
    (λ q. ap (λ r. is_negative (extent ls r)) q)
    (λ q. ap (λ r. is_negative (extent ls r)) q ∙ ap is_negative (extent-negated ls p))
void-at ls (Geq t) p k e = bound-slack (is_negative (extent ls t.pairs) ≡ is_negative (extent ls p)) t p k e (λ q is. ap (λ r. is_negative (extent ls r)) q)
void-at ls (Div d t) p k e = absurd cc
void-at ls (NDiv d t) p k e = absurd cc

some_value : (ls : List Literal) (p : List (ℕ × ℤ)) (k : ℤ) → list_any (is_void ls) ls ≡ false → slack ls p ≡ Some k → is_negative (extent ls p) ≡ false
some_value ls p k v e =
    let w = slack-witness ls p k e in
    by_no (is_negative (extent ls p))
    (λ y. let any : list_any (is_void ls) ls ≡ true = any_with (is_void ls) w.literal ls w.among (void-at ls w.literal p k w.is ∙ y) in
    let z : true ≡ false = sym any ∙ v in cc)

more_than_point : (j k : ℤ) → is_negative (Some (j +ℤ k)) ≡ false → is_zero (Some (j +ℤ k)) ≡ false → pos 0 <ℤ (j +ℤ k)
more_than_point j k n z =
    by_lt_z (pos 0) (j +ℤ k) (λ lt. lt)
    (λ le. absurd (let low : pos 0 ≤ℤ (j +ℤ k) = not_below (j +ℤ k) n in let e : j +ℤ k ≡ pos 0 = omega (arith, ints, le, low) in
    let t : int_eq (j +ℤ k) (pos 0) ≡ true = (Decides-int_eq (j +ℤ k) (pos 0)).1 e in let bad : true ≡ false = sym t ∙ z in cc))
  where
    not_below : (a : ℤ) → int_lt a (pos 0) ≡ false → pos 0 ≤ℤ a
    not_below a h = grind (arith, ints)

-- bounds p + j ≥ 0 and −p + k ≥ 0 of a clause
apart : (c : List Literal) (s t : Linear) → AreIntervals c → Among (Geq s) c → Among (Geq t) c → s.pairs ≡ negated t.pairs → pos 0 <ℤ (s.constant +ℤ t.constant)
unfolding Fits
apart c s t h a b e =
    let fs = all_among (Fits h.bounds) (Geq s) c h.fit a in
    let ft = all_among (Fits h.bounds) (Geq t) c h.fit b in
    let opposite : negated s.pairs ≡ t.pairs = ap negated e ∙ negated_twice t.pairs in
    let high : slack h.bounds (negated s.pairs) ≡ Some t.constant = ap (slack h.bounds) opposite ∙ ft.1 in
    let is : extent h.bounds s.pairs ≡ Some (s.constant +ℤ t.constant) = ap (λ x. bounds_apart x (slack h.bounds (negated s.pairs))) fs.1 ∙ ap (bounds_apart (Some s.constant)) high in
    more_than_point s.constant t.constant (ap is_negative (sym is) ∙ some_value h.bounds s.pairs s.constant h.not_void fs.1) (ap is_zero (sym is) ∙ fs.0)

pub bounds-apart : (c : List Literal) (s t : Linear) → IsClause c → list_any (is_literal (Geq s)) c ≡ true → list_any (is_literal (Geq t)) c ≡ true → s.pairs ≡ negated t.pairs
    → pos 0 <ℤ (s.constant +ℤ t.constant)
bounds-apart c s t h a b e = apart c s t (clause-intervals c h) (held c (Geq s) a) (held c (Geq t) b) e

-- ---- what the literals of a clause bound in it
pub slack_some : (P : Type 0) (a : Option ℤ) → (a ≡ None → P) → ((k : ℤ) → a ≡ Some k → P) → P
slack_some P None f g = f refl
slack_some P (Some k) f g = g k refl

pub bound_none : (a : Option ℤ) (k : ℤ) → AtMost a k → a ≡ None → ⊥
bound_none None k h e = h
bound_none (Some a) k h e = cc

-- the least bound of the coefficients of a bound is its own
own-bound : (c : List Literal) (t : Linear) → AreIntervals c → Among (Geq t) c → slack c t.pairs ≡ Some t.constant
own-bound c t h a =
    slack_some (slack c t.pairs ≡ Some t.constant) (slack c t.pairs)
    (λ e. absurd (bound_none (slack c t.pairs) t.constant (slack-at (Geq t) c t.pairs t.constant a (slack_of-bound t)) e))
    (λ k e. let w = slack-witness c t.pairs k e in e ∙ ap Some (sym (own_slack c t w.literal k h a w.among w.is)))

-- what bounds the opposite coefficients of a bound lies above it
own-opposite : (c : List Literal) (t : Linear) (m : Literal) (k : ℤ) → AreIntervals c → Among (Geq t) c → Among m c → slack_of m (negated t.pairs) ≡ Some k → pos 0 <ℤ (t.constant +ℤ k)
own-opposite c t (Eq s) k h a b e =
    absurd (equation-slack ⊥ s (negated t.pairs) k e (λ q. not_opposite c s t h b a q) (λ q. not_both c s t h b a (q ∙ negated_twice t.pairs)))
own-opposite c t (Geq s) k h a b e =
    bound-slack (pos 0 <ℤ (t.constant +ℤ k)) s (negated t.pairs) k e
    (λ q is. let lt = apart c s t h b a q in omega (arith, ints, lt, is))
own-opposite c t (Div d s) k h a b e = absurd cc
own-opposite c t (NDiv d s) k h a b e = absurd cc

pub record IsOpen (o : Option ℤ) : Type 0 where
  pub not_negative : is_negative o ≡ false
  pub not_zero : is_zero o ≡ false

pub open_none : (a : Option ℤ) → IsOpen (bounds_apart a None)
open_none None = record { not_negative = refl; not_zero = refl }
open_none (Some k) = record { not_negative = refl; not_zero = refl }

pub open_some : (j k : ℤ) → pos 0 <ℤ (j +ℤ k) → IsOpen (Some (j +ℤ k))
open_some j k lt = record { not_negative = no (j +ℤ k) lt; not_zero = apart_from (j +ℤ k) lt }
  where
    no : (a : ℤ) → pos 0 <ℤ a → int_lt a (pos 0) ≡ false
    no a h = grind (arith, ints)

    apart_from : (a : ℤ) → pos 0 <ℤ a → int_eq a (pos 0) ≡ false
    apart_from a h = grind (arith, ints)

-- the interval of a bound's coefficients has more than one value, or no end
own-open : (c : List Literal) (t : Linear) → AreIntervals c → Among (Geq t) c → IsOpen (extent c t.pairs)
own-open c t h a =
    let low = own-bound c t h a in
    slack_some (IsOpen (extent c t.pairs)) (slack c (negated t.pairs))
    (λ e. subst (λ x. IsOpen (bounds_apart (slack c t.pairs) x)) (sym e) (open_none (slack c t.pairs)))
    (λ k e. let w = slack-witness c (negated t.pairs) k e in
    let lt = own-opposite c t w.literal k h a w.among w.is in
    subst (λ x. IsOpen (bounds_apart (slack c t.pairs) x)) (sym e) (subst (λ x. IsOpen (bounds_apart x (Some k))) (sym low) (open_some t.constant k lt)))

-- equations of a clause with opposite coefficients there are none
leads_opposite : (ps : List (ℕ × ℤ)) → LeadsPositive ps → LeadsPositive (negated ps) → ⊥
leads_opposite [] h k = h
leads_opposite (p ∷ ps) h k = omega (arith, ints, h, k)

leads_apart : (ps : List (ℕ × ℤ)) → LeadsPositive ps → same_pairs ps (negated ps) ≡ false
leads_apart ps h = by_no (same_pairs ps (negated ps)) (λ y. leads_opposite ps h (subst LeadsPositive (same_pairs-equal ps (negated ps) y) h))

equation-own : (c : List Literal) (t : Linear) (m : Literal) (k : ℤ) → AreIntervals c → AllByRecursion IsNormalLiteral c → Among (Eq t) c → Among m c → slack_of m t.pairs ≡ Some k → k ≡ t.constant
equation-own c t (Eq s) k h n a b e =
    equation-slack (k ≡ t.constant) s t.pairs k e
    (λ q. let same : s ≡ t = one_equation c s t h b a q in
    let own : slack_of (Eq s) t.pairs ≡ Some t.constant = ap (λ z. slack_of (Eq z) t.pairs) same ∙ slack_of-own t in
    let both : Some k ≡ Some t.constant = sym e ∙ own in cc)
    (λ q. absurd (leads_opposite t.pairs (all_among IsNormalLiteral (Eq t) c n a).primitive.1 (subst LeadsPositive q (all_among IsNormalLiteral (Eq s) c n b).primitive.1)))
equation-own c t (Geq s) k h n a b e = bound-slack (k ≡ t.constant) s t.pairs k e (λ q is. absurd (not_both c t s h a b (sym q)))
equation-own c t (Div d s) k h n a b e = absurd cc
equation-own c t (NDiv d s) k h n a b e = absurd cc

equation-other : (c : List Literal) (t : Linear) (m : Literal) (k : ℤ) → AreIntervals c → AllByRecursion IsNormalLiteral c → Among (Eq t) c → Among m c → slack_of m (negated t.pairs) ≡ Some k → k ≡ neg_ℤ t.constant
equation-other c t (Eq s) k h n a b e =
    equation-slack (k ≡ neg_ℤ t.constant) s (negated t.pairs) k e
    (λ q. absurd (leads_opposite t.pairs (all_among IsNormalLiteral (Eq t) c n a).primitive.1 (subst LeadsPositive q (all_among IsNormalLiteral (Eq s) c n b).primitive.1)))
    (λ q. let same : s ≡ t = one_equation c s t h b a (q ∙ negated_twice t.pairs) in
    let own : slack_of (Eq t) (negated t.pairs) ≡ Some k = ap (λ z. slack_of (Eq z) (negated t.pairs)) (sym same) ∙ e in
    let both : Some (neg_ℤ t.constant) ≡ Some k = sym (slack_of-opposite t (leads_apart t.pairs (all_among IsNormalLiteral (Eq t) c n a).primitive.1)) ∙ own in
    cc)
equation-other c t (Geq s) k h n a b e =
    bound-slack (k ≡ neg_ℤ t.constant) s (negated t.pairs) k e (λ q is. absurd (not_opposite c t s h a b (sym (ap negated q ∙ negated_twice t.pairs))))
equation-other c t (Div d s) k h n a b e = absurd cc
equation-other c t (NDiv d s) k h n a b e = absurd cc

zero_not_negative : (j k : ℤ) → k ≡ neg_ℤ j → is_negative (Some (j +ℤ k)) ≡ false
zero_not_negative j k e = let z : j +ℤ k ≡ pos 0 = omega (arith, ints, e) in ap (λ a. is_negative (Some a)) z

equation-point : (c : List Literal) (t : Linear) → AreIntervals c → AllByRecursion IsNormalLiteral c → Among (Eq t) c → is_negative (extent c t.pairs) ≡ false
equation-point c t h n a =
    slack_some (is_negative (extent c t.pairs) ≡ false) (slack c t.pairs)
    (λ e. ap (λ x. is_negative (bounds_apart x (slack c (negated t.pairs)))) e)
    (λ j e. slack_some (is_negative (extent c t.pairs) ≡ false) (slack c (negated t.pairs))
    (λ f. ap (λ x. is_negative (bounds_apart (slack c t.pairs) x)) f ∙ (open_none (slack c t.pairs)).not_negative)
    (λ k f.
    let w = slack-witness c t.pairs j e in
    let v = slack-witness c (negated t.pairs) k f in
    let is_j : j ≡ t.constant = equation-own c t w.literal j h n a w.among w.is in
    let is_k : k ≡ neg_ℤ t.constant = equation-other c t v.literal k h n a v.among v.is in
    ap (λ x. is_negative (bounds_apart x (slack c (negated t.pairs)))) e ∙ ap (λ x. is_negative (bounds_apart (Some j) x)) f
    ∙ zero_not_negative j k (is_k ∙ ap neg_ℤ (sym is_j))))

-- ---- a clause is its own form
own_not_void : (c : List Literal) (l : Literal) → AreIntervals c → AllByRecursion IsNormalLiteral c → Among l c → is_void c l ≡ false
own_not_void c (Eq t) h n a = equation-point c t h n a
own_not_void c (Geq t) h n a = (own-open c t h a).not_negative
own_not_void c (Div d t) h n a = refl
own_not_void c (NDiv d t) h n a = refl

own_tight : (c : List Literal) (l : Literal) → AreIntervals c → Among l c → tightened c l ≡ l
own_tight c (Eq t) h a = refl
own_tight c (Geq t) h a =
    ap (λ b. cond b (Eq (turned (with_constant (slack c t.pairs) t))) (Geq (with_constant (slack c t.pairs) t))) (own-open c t h a).not_zero
    ∙ ap (λ k. Geq (with_constant k t)) (own-bound c t h a)
own_tight c (Div d t) h a = refl
own_tight c (NDiv d t) h a = refl

none_void : (c ls : List Literal) → ((l : Literal) → Among l ls → is_void c l ≡ false) → list_any (is_void c) ls ≡ false
none_void c [] f = refl
none_void c (l ∷ ls) f = ap (λ b. b || list_any (is_void c) ls) (f l (inl refl)) ∙ none_void c ls (λ m a. f m (inr a))

all_tight : (c ls : List Literal) → ((l : Literal) → Among l ls → tightened c l ≡ l) → map (tightened c) ls ≡ ls
all_tight c [] f = refl
all_tight c (l ∷ ls) f = ap (λ z. z ∷ map (tightened c) ls) (f l (inl refl)) ∙ ap (λ z. l ∷ z) (all_tight c ls (λ m a. f m (inr a)))

front-own : {X : Type 0} (R : X → X → Ordering) (x : X) (xs : List X) → AllByRecursion (λ y. R x y ≡ Less) xs → insert_once R x xs ≡ x ∷ xs
front-own R x [] h = refl
front-own R x (y ∷ ys) h = ap (λ o. insert_at o x y ys (insert_once R x ys)) h.0

inserted-own : {X : Type 0} (R : X → X → Ordering) (xs : List X) → IsStrictlySortedBy R xs → inserted R xs [] ≡ xs
unfolding IsStrictlySortedBy
inserted-own R [] h = refl
inserted-own R (x ∷ xs) h = ap (insert_once R x) (inserted-own R xs h.1) ∙ front-own R x xs h.0

-- what is sorted, each element once, stays as it is
pub sorted_once-own : {X : Type 0} (R : X → X → Ordering) (xs : List X) → IsStrictlySortedBy R xs → sorted_once R xs ≡ xs
unfolding sorted_once
sorted_once-own R xs h = inserted-own R xs h

-- sorted literals, each as the others tighten it, are their own form
pub compact_of_tight : (c : List Literal) → IsStrictlySortedBy literal_cmp c → ((l : Literal) → Among l c → is_void c l ≡ false) → ((l : Literal) → Among l c → tightened c l ≡ l)
    → compact c ≡ Some c
unfolding compact
compact_of_tight c s f g =
    ap (λ b. cond b None (Some (sorted_once literal_cmp (map (tightened c) c)))) (none_void c c f)
    ∙ ap (λ z. Some (sorted_once literal_cmp z)) (all_tight c c g)
    ∙ ap Some (sorted_once-own literal_cmp c s)

compact-own : (c : List Literal) → AreIntervals c → AllByRecursion IsNormalLiteral c → compact c ≡ Some c
compact-own c h n = compact_of_tight c h.sorted (λ l a. own_not_void c l h n a) (λ l a. own_tight c l h a)

pub clause-own : (c : List Literal) → IsClause c → clause_of c ≡ Some c
unfolding clause_of
clause-own c h =
    let n = clause-normal c h in
    ap (λ b. cond b None (compact (normals c))) (none_false c n) ∙ ap compact (normals-own c n) ∙ compact-own c (clause-intervals c h) n

-- ---- where a conjunction has no form
record IsBelow (a b : Option ℤ) : Type 0 where
  j : ℤ
  k : ℤ
  low : a ≡ Some j
  high : b ≡ Some k
  empty : (j +ℤ k) <ℤ pos 0

below_zero : (a : ℤ) → int_lt a (pos 0) ≡ true → a <ℤ pos 0
below_zero a h = grind (arith, ints)

zero_below : (a : ℤ) → a <ℤ pos 0 → int_lt a (pos 0) ≡ true
zero_below a h = grind (arith, ints)

is_below : (a b : Option ℤ) → is_negative (bounds_apart a b) ≡ true → IsBelow a b
is_below None b h = absurd cc
is_below (Some a) None h = absurd cc
is_below (Some a) (Some b) h = record { j = a; k = b; low = refl; high = refl; empty = below_zero (a +ℤ b) h }

empty_at : (ls : List Literal) (p : List (ℕ × ℤ)) → is_negative (extent ls p) ≡ true → HasEmptyInterval ls
empty_at ls p h =
    let b = is_below (slack ls p) (slack ls (negated p)) h in
    record { form = p; j = b.j; k = b.k; low = b.low; high = b.high; empty = b.empty }

empty_of : (ls : List Literal) (l : Literal) → is_void ls l ≡ true → HasEmptyInterval ls
empty_of ls (Eq t) h = empty_at ls t.pairs h
empty_of ls (Geq t) h = empty_at ls t.pairs h
empty_of ls (Div d t) h = absurd cc
empty_of ls (NDiv d t) h = absurd cc

compact-empty : (ls : List Literal) → compact ls ≡ None → HasEmptyInterval ls
unfolding compact
compact-empty ls =
    by_test (λ a. a ≡ None → HasEmptyInterval ls) (list_any (is_void ls) ls) None (Some (sorted_once literal_cmp (map (tightened ls) ls)))
    (λ v _. let w = any_from (is_void ls) ls v in empty_of ls w.element w.passes)
    (λ _ e. absurd cc)

empty-compact : (ls : List Literal) → HasEmptyInterval ls → compact ls ≡ None
unfolding compact
empty-compact ls h =
    let w = slack-witness ls h.form h.j h.low in
    let extent_is : extent ls h.form ≡ Some (h.j +ℤ h.k) = ap (λ x. bounds_apart x (slack ls (negated h.form))) h.low ∙ ap (bounds_apart (Some h.j)) h.high in
    let void : is_void ls w.literal ≡ true = void-at ls w.literal h.form h.j w.is ∙ ap is_negative extent_is ∙ zero_below (h.j +ℤ h.k) h.empty in
    ap (λ b. cond b None (Some (sorted_once literal_cmp (map (tightened ls) ls)))) (any_with (is_void ls) w.literal ls w.among void)

none_there : (ls : List Literal) → clause_of ls ≡ None → (list_any (λ l. is_false (normal_of l)) ls ≡ true) ⊎ HasEmptyInterval (normals ls)
unfolding clause_of
none_there ls =
    by_test (λ a. a ≡ None → (list_any (λ l. is_false (normal_of l)) ls ≡ true) ⊎ HasEmptyInterval (normals ls)) (list_any (λ l. is_false (normal_of l)) ls) None (compact (normals ls))
    (λ f _. inl f)
    (λ _ e. inr (compact-empty (normals ls) e))

none_back : (ls : List Literal) → (list_any (λ l. is_false (normal_of l)) ls ≡ true) ⊎ HasEmptyInterval (normals ls) → clause_of ls ≡ None
unfolding clause_of
none_back ls (inl f) = ap (λ b. cond b None (compact (normals ls))) f
none_back ls (inr h) =
    by_test (λ a. a ≡ None) (list_any (λ l. is_false (normal_of l)) ls) None (compact (normals ls)) (λ _. refl) (λ _. empty-compact (normals ls) h)

pub no_clause : (ls : List Literal) → (clause_of ls ≡ None) ↔ ((list_any (λ l. is_false (normal_of l)) ls ≡ true) ⊎ HasEmptyInterval (normals ls))
no_clause ls = (none_there ls, none_back ls)
