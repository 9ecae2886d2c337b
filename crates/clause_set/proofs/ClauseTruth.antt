-- The normal form of a conjunction is true where all its literals are.
use Rattle.std.proofs.Common.{◌≡◌, ℕ, ℤ, pos, neg_ℤ, ◌+ℤ◌, ◌≤ℤ◌, ◌<ℤ◌, int_lt, Bool, true, false, cond, ◌&&◌, ◌||◌, List, [], ◌∷◌, map, Option, Some, None, ◌⊎◌, inl, inr, refl, sym, ◌∙◌, ap, subst, arith}
use Rattle.std.specs.Prelude.{All}
use Rattle.std.specs.Cmp.{first_so, second_so, both_ways}
use Rattle.std.specs.List.{AllByRecursion, list_any, flat_map}
use Rattle.std.proofs.lemmas.Int.{ints}
use Rattle.std.proofs.lemmas.Bool.Decides.{Decides-int_eq}
use Rattle.std.proofs.lemmas.List.Folds.{list_all-append}
use Rattle.std.proofs.lemmas.List.Elements.{recursion_from_All}
use Rattle.linear_term.specs.Linear.{Linear, total, value_at, value_of}
use Rattle.linear_term.proofs.Totals.{by_test}
use Rattle.clause_set.specs.declared.literal.Literal.{Literal}
use Rattle.clause_set.specs.declared.literal.Literal.TheVariants.{Eq, Geq, Div, NDiv}
use Rattle.clause_set.specs.declared.literal.Norm.{Norm}
use Rattle.clause_set.specs.declared.literal.Norm.TheVariants.{True, False, Lit}
use Rattle.clause_set.specs.Literals.{literal_truth, norm_truth, clause_truth, answer_truth, IsLiteral}
use Rattle.clause_set.specs.Normal.{negated, turned, normal_of}
use Rattle.clause_set.specs.Order.{literal_cmp, sorted_once}
use Rattle.clause_set.specs.Clauses.{same_pairs, least, slack_of, slack, bounds_apart, extent, is_negative, is_zero, is_void, with_constant, tightened, compact, is_false, literals_of, clause_of}
use Rattle.clause_set.proofs.NormalTruth.{le_decides, total-negated, zero-turned, normal-truth}
use Rattle.clause_set.proofs.Orders.{same_pairs-equal, same_pairs-refl, literal_cmp-equal, sorted_once-all}

pub and_true : (a : Bool) → (a && true) ≡ a
and_true true = refl
and_true false = refl

pub and_false : (a : Bool) → (a && false) ≡ false
and_false true = refl
and_false false = refl

or_false : (a b : Bool) → (a || b) ≡ false → (a ≡ false) × (b ≡ false)
or_false true b h = absurd (cc)
or_false false b h = (refl, h)

pub by_first : (a b : Bool) (P : Type 0) → (a || b) ≡ true → (a ≡ true → P) → (b ≡ true → P) → P
by_first true b P h f g = f refl
by_first false b P h f g = g h

-- v + k is not negative, where there is a k
abbrev pub Bounded : ℤ → Option ℤ → Type 0
Bounded v None = Unit {0}
Bounded v (Some k) = pos 0 ≤ℤ (v +ℤ k)

bounded-least : (v : ℤ) (a b : Option ℤ) → Bounded v a → Bounded v b → Bounded v (least a b)
bounded-least v None b h k = k
bounded-least v (Some a) None h k = h
bounded-least v (Some a) (Some b) h k = by_test (λ z. pos 0 ≤ℤ (v +ℤ z)) (int_lt b a) b a (λ _. k) (λ _. h)

-- the sum of the coefficients p at e
abbrev pub sum_of : List (ℕ × ℤ) → List ℤ → ℤ
sum_of p e = total (value_at e) p

pub value-is : (t : Linear) (e : List ℤ) → value_of t e ≡ sum_of t.pairs e +ℤ t.constant
unfolding value_of
value-is t e = refl

bound-of_bound : (t : Linear) (p : List (ℕ × ℤ)) (e : List ℤ) → t.pairs ≡ p → pos 0 ≤ℤ value_of t e → pos 0 ≤ℤ (sum_of p e +ℤ t.constant)
bound-of_bound t p e same h = subst (λ q. pos 0 ≤ℤ (sum_of q e +ℤ t.constant)) same (omega (arith, ints, h, value-is t e))

bound-of_equation : (t : Linear) (p : List (ℕ × ℤ)) (e : List ℤ) → t.pairs ≡ p → value_of t e ≡ pos 0 → pos 0 ≤ℤ (sum_of p e +ℤ t.constant)
bound-of_equation t p e same z = bound-of_bound t p e same (omega (arith, ints, z))

bound-of_opposite : (t : Linear) (p : List (ℕ × ℤ)) (e : List ℤ) → t.pairs ≡ negated p → value_of t e ≡ pos 0 → pos 0 ≤ℤ (sum_of p e +ℤ neg_ℤ t.constant)
bound-of_opposite t p e same z =
    let turned_sum : sum_of t.pairs e ≡ neg_ℤ (sum_of p e) = ap (λ q. sum_of q e) same ∙ total-negated e p in
    omega (arith, ints, turned_sum, value-is t e, z)

-- what a true literal says of p
slack_of-bounded : (l : Literal) (p : List (ℕ × ℤ)) (e : List ℤ) → literal_truth l e ≡ true → Bounded (sum_of p e) (slack_of l p)
slack_of-bounded (Eq t) p e h =
    let z : value_of t e ≡ pos 0 = (Decides-int_eq (value_of t e) (pos 0)).0 h in
    by_test (Bounded (sum_of p e)) (same_pairs t.pairs p) (Some t.constant) _
    (λ s. bound-of_equation t p e (same_pairs-equal t.pairs p s) z)
    (λ _. by_test (Bounded (sum_of p e)) (same_pairs t.pairs (negated p)) (Some (neg_ℤ t.constant)) None
    (λ s. bound-of_opposite t p e (same_pairs-equal t.pairs (negated p) s) z) (λ _. tt))
slack_of-bounded (Geq t) p e h =
    by_test (Bounded (sum_of p e)) (same_pairs t.pairs p) (Some t.constant) None
    (λ s. bound-of_bound t p e (same_pairs-equal t.pairs p s) ((le_decides (pos 0) (value_of t e)).0 h)) (λ _. tt)
slack_of-bounded (Div d t) p e h = tt
slack_of-bounded (NDiv d t) p e h = tt

pub slack-bounded : (ls : List Literal) (p : List (ℕ × ℤ)) (e : List ℤ) → clause_truth ls e ≡ true → Bounded (sum_of p e) (slack ls p)
slack-bounded [] p e h = tt
slack-bounded (l ∷ ls) p e h =
    bounded-least (sum_of p e) (slack_of l p) (slack ls p) (slack_of-bounded l p e (first_so _ _ h)) (slack-bounded ls p e (second_so _ _ h))

-- the bounds of a true conjunction leave a value
apart-not_negative : (v w : ℤ) (a b : Option ℤ) → w ≡ neg_ℤ v → Bounded v a → Bounded w b → is_negative (bounds_apart a b) ≡ false
apart-not_negative v w None b e h k = refl
apart-not_negative v w (Some a) None e h k = refl
apart-not_negative v w (Some a) (Some b) e h k = let n : pos 0 ≤ℤ (a +ℤ b) = omega (arith, ints, h, k, e) in grind (arith, ints)

apart-zero : (v w : ℤ) (a b : Option ℤ) → w ≡ neg_ℤ v → Bounded v a → Bounded w b → is_zero (bounds_apart a b) ≡ true → (k : ℤ) → a ≡ Some k → v +ℤ k ≡ pos 0
apart-zero v w None b e h k z c is = absurd (cc)
apart-zero v w (Some a) None e h k z c is = absurd (cc)
apart-zero v w (Some a) (Some b) e h k z c is =
    let s : a +ℤ b ≡ pos 0 = (Decides-int_eq (a +ℤ b) (pos 0)).0 z in
    let same : a ≡ c = cc in
    ap (λ x. v +ℤ x) (sym same) ∙ omega (arith, ints, h, k, e, s)

extent-not_negative : (ls : List Literal) (p : List (ℕ × ℤ)) (e : List ℤ) → clause_truth ls e ≡ true → is_negative (extent ls p) ≡ false
extent-not_negative ls p e h =
    apart-not_negative (sum_of p e) (sum_of (negated p) e) (slack ls p) (slack ls (negated p)) (total-negated e p) (slack-bounded ls p e h) (slack-bounded ls (negated p) e h)

not_void : (ls : List Literal) (l : Literal) (e : List ℤ) → clause_truth ls e ≡ true → is_void ls l ≡ false
not_void ls (Eq t) e h = extent-not_negative ls t.pairs e h
not_void ls (Geq t) e h = extent-not_negative ls t.pairs e h
not_void ls (Div d t) e h = refl
not_void ls (NDiv d t) e h = refl

none_void : (ls ms : List Literal) (e : List ℤ) → clause_truth ls e ≡ true → list_any (is_void ls) ms ≡ false
none_void ls [] e h = refl
none_void ls (m ∷ ms) e h = ap (λ b. b || list_any (is_void ls) ms) (not_void ls m e h) ∙ none_void ls ms e h

-- ---- tightened literals
value-with : (k : Option ℤ) (t : Linear) (e : List ℤ) → Bounded (sum_of t.pairs e) k → pos 0 ≤ℤ value_of t e → pos 0 ≤ℤ value_of (with_constant k t) e
value-with None t e b h = h
value-with (Some k) t e b h = omega (arith, ints, b, value-is (record { pairs = t.pairs; constant = k }) e)

value-point : (a b : Option ℤ) (t : Linear) (e : List ℤ) → Bounded (sum_of t.pairs e) a → Bounded (sum_of (negated t.pairs) e) b → is_zero (bounds_apart a b) ≡ true
    → value_of (with_constant a t) e ≡ pos 0
value-point None b t e h k z = absurd (cc)
value-point (Some a) b t e h k z =
    value-is (record { pairs = t.pairs; constant = a }) e ∙ apart-zero (sum_of t.pairs e) (sum_of (negated t.pairs) e) (Some a) b (total-negated e t.pairs) h k z a refl

tightened-true : (ls : List Literal) (l : Literal) (e : List ℤ) → clause_truth ls e ≡ true → literal_truth l e ≡ true → literal_truth (tightened ls l) e ≡ true
tightened-true ls (Eq t) e h k = k
tightened-true ls (Geq t) e h k =
    let s = with_constant (slack ls t.pairs) t in
    by_test (λ m. literal_truth m e ≡ true) (is_zero (extent ls t.pairs)) (Eq (turned s)) (Geq s)
    (λ z. zero-turned s e ∙ (Decides-int_eq (value_of s e) (pos 0)).1
    (value-point (slack ls t.pairs) (slack ls (negated t.pairs)) t e (slack-bounded ls t.pairs e h) (slack-bounded ls (negated t.pairs) e h) z))
    (λ _. (le_decides (pos 0) (value_of s e)).1 (value-with (slack ls t.pairs) t e (slack-bounded ls t.pairs e h) ((le_decides (pos 0) (value_of t e)).0 k)))
tightened-true ls (Div d t) e h k = k
tightened-true ls (NDiv d t) e h k = k

all_tightened-true : (ls ms : List Literal) (e : List ℤ) → clause_truth ls e ≡ true → clause_truth ms e ≡ true → clause_truth (map (tightened ls) ms) e ≡ true
all_tightened-true ls [] e h k = refl
all_tightened-true ls (m ∷ ms) e h k =
    ap (λ b. b && clause_truth (map (tightened ls) ms) e) (tightened-true ls m e h (first_so _ _ k)) ∙ all_tightened-true ls ms e h (second_so _ _ k)

-- the literal is one of them
abbrev pub IsIn : Literal → List Literal → Type 0
IsIn l [] = ⊥
IsIn l (m ∷ ms) = (l ≡ m) ⊎ IsIn l ms

-- the bound k is at most c
abbrev pub AtMost : Option ℤ → ℤ → Type 0
AtMost None c = ⊥
AtMost (Some k) c = k ≤ℤ c

pub least-left : (a b : Option ℤ) (c : ℤ) → AtMost a c → AtMost (least a b) c
least-left None b c h = absurd h
least-left (Some a) None c h = h
least-left (Some a) (Some b) c h = by_test (λ z. z ≤ℤ c) (int_lt b a) b a (λ t. let lt : b <ℤ a = grind (arith, ints) in omega (arith, ints, h, lt)) (λ _. h)

pub least-right : (a b : Option ℤ) (c : ℤ) → AtMost b c → AtMost (least a b) c
least-right None b c h = h
least-right (Some a) None c h = absurd h
least-right (Some a) (Some b) c h = by_test (λ z. z ≤ℤ c) (int_lt b a) b a (λ _. h) (λ t. let le : a ≤ℤ b = grind (arith, ints) in omega (arith, ints, h, le))

slack_of-self : (t : Linear) → AtMost (slack_of (Geq t) t.pairs) t.constant
slack_of-self t = subst (λ b. AtMost (cond b (Some t.constant) None) t.constant) (sym (same_pairs-refl t.pairs)) (omega (arith, ints))

pub slack-at_most : (ls : List Literal) (t : Linear) → IsIn (Geq t) ls → AtMost (slack ls t.pairs) t.constant
slack-at_most [] t h = absurd h
slack-at_most (l ∷ ls) t (inl e) = least-left (slack_of l t.pairs) (slack ls t.pairs) t.constant (subst (λ m. AtMost (slack_of m t.pairs) t.constant) e (slack_of-self t))
slack-at_most (l ∷ ls) t (inr h) = least-right (slack_of l t.pairs) (slack ls t.pairs) t.constant (slack-at_most ls t h)

value-looser : (k : Option ℤ) (t : Linear) (e : List ℤ) → AtMost k t.constant → pos 0 ≤ℤ value_of (with_constant k t) e → pos 0 ≤ℤ value_of t e
value-looser None t e h v = absurd h
value-looser (Some k) t e h v = omega (arith, ints, h, v, value-is (record { pairs = t.pairs; constant = k }) e, value-is t e)

tightened-back : (ls : List Literal) (l : Literal) (e : List ℤ) → IsIn l ls → literal_truth (tightened ls l) e ≡ true → literal_truth l e ≡ true
tightened-back ls (Eq t) e h k = k
tightened-back ls (Geq t) e h k =
    let s = with_constant (slack ls t.pairs) t in
    let loose : pos 0 ≤ℤ value_of s e → literal_truth (Geq t) e ≡ true = λ v. (le_decides (pos 0) (value_of t e)).1 (value-looser (slack ls t.pairs) t e (slack-at_most ls t h) v) in
    by_test (λ m. literal_truth m e ≡ true → literal_truth (Geq t) e ≡ true) (is_zero (extent ls t.pairs)) (Eq (turned s)) (Geq s)
    (λ _ y. let z : value_of s e ≡ pos 0 = (Decides-int_eq (value_of s e) (pos 0)).0 (sym (zero-turned s e) ∙ y) in loose (omega (arith, ints, z)))
    (λ _ y. loose ((le_decides (pos 0) (value_of s e)).0 y)) k
tightened-back ls (Div d t) e h k = k
tightened-back ls (NDiv d t) e h k = k

all_tightened-back : (ls ms : List Literal) (e : List ℤ) → ((l : Literal) → IsIn l ms → IsIn l ls) → clause_truth (map (tightened ls) ms) e ≡ true → clause_truth ms e ≡ true
all_tightened-back ls [] e among k = refl
all_tightened-back ls (m ∷ ms) e among k =
    ap (λ b. b && clause_truth ms e) (tightened-back ls m e (among m (inl refl)) (first_so _ _ k))
    ∙ all_tightened-back ls ms e (λ l h. among l (inr h)) (second_so _ _ k)

-- ---- the conjunction
by_bool : (b : Bool) → (b ≡ true → ⊥) → b ≡ false
by_bool true h = absurd (h refl)
by_bool false h = refl

pub compact-truth : (ls : List Literal) (e : List ℤ) → answer_truth (compact ls) e ≡ clause_truth ls e
unfolding compact
compact-truth ls e =
    by_test (λ a. answer_truth a e ≡ clause_truth ls e) (list_any (is_void ls) ls) None (Some (sorted_once literal_cmp (map (tightened ls) ls)))
    (λ v. sym (by_bool (clause_truth ls e) (λ h. let n : list_any (is_void ls) ls ≡ false = none_void ls ls e h in cc)))
    (λ _. sorted_once-all literal_cmp (λ l. literal_truth l e) literal_cmp-equal (map (tightened ls) ls)
    ∙ both_ways (clause_truth (map (tightened ls) ls) e) (clause_truth ls e) (all_tightened-back ls ls e (λ l h. h)) (λ h. all_tightened-true ls ls e h h))

false-truth : (n : Norm) (e : List ℤ) → is_false n ≡ true → norm_truth n e ≡ false
false-truth True e h = absurd (cc)
false-truth False e h = refl
false-truth (Lit l) e h = absurd (cc)

literals-truth : (n : Norm) (e : List ℤ) → is_false n ≡ false → clause_truth (literals_of n) e ≡ norm_truth n e
literals-truth True e h = refl
literals-truth False e h = absurd (cc)
literals-truth (Lit l) e h = and_true (literal_truth l e)

one_false : (ls : List Literal) (e : List ℤ) → AllByRecursion IsLiteral ls → list_any (λ l. is_false (normal_of l)) ls ≡ true → clause_truth ls e ≡ false
one_false [] e a h = absurd (cc)
one_false (l ∷ ls) e a h =
    by_first (is_false (normal_of l)) (list_any (λ m. is_false (normal_of m)) ls) (clause_truth (l ∷ ls) e ≡ false) h
    (λ f. ap (λ b. b && clause_truth ls e) (sym (normal-truth l e a.0) ∙ false-truth (normal_of l) e f))
    (λ r. ap (λ b. literal_truth l e && b) (one_false ls e a.1 r) ∙ and_false (literal_truth l e))

none_false : (ls : List Literal) (e : List ℤ) → AllByRecursion IsLiteral ls → list_any (λ l. is_false (normal_of l)) ls ≡ false
    → clause_truth (flat_map (λ l. literals_of (normal_of l)) ls) e ≡ clause_truth ls e
none_false [] e a h = refl
none_false (l ∷ ls) e a h =
    let parts = or_false (is_false (normal_of l)) (list_any (λ m. is_false (normal_of m)) ls) h in
    list_all-append (λ m. literal_truth m e) (literals_of (normal_of l)) (flat_map (λ m. literals_of (normal_of m)) ls)
    ∙ ap (λ b. b && clause_truth (flat_map (λ m. literals_of (normal_of m)) ls) e) (literals-truth (normal_of l) e parts.0 ∙ normal-truth l e a.0)
    ∙ ap (λ b. literal_truth l e && b) (none_false ls e a.1 parts.1)

pub clause-truth : (ls : List Literal) (e : List ℤ) → All IsLiteral ls → answer_truth (clause_of ls) e ≡ clause_truth ls e
unfolding clause_of
clause-truth ls e a =
    by_test (λ c. answer_truth c e ≡ clause_truth ls e) (list_any (λ l. is_false (normal_of l)) ls) None (compact (flat_map (λ l. literals_of (normal_of l)) ls))
    (λ y. sym (one_false ls e (recursion_from_All IsLiteral ls a) y))
    (λ n. compact-truth (flat_map (λ l. literals_of (normal_of l)) ls) e ∙ none_false ls e (recursion_from_All IsLiteral ls a) n)

-- the same of a call's answer
pub clause_answer : (ls : List Literal) (answer : Option (List Literal)) → All IsLiteral ls → answer ≡ clause_of ls → (e : List ℤ) → answer_truth answer e ≡ clause_truth ls e
clause_answer ls answer a is e = ap (λ z. answer_truth z e) is ∙ clause-truth ls e a
