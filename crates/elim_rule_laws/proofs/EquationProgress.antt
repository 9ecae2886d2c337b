-- Each rule leaves clauses that are nearer to being without x.
use Rattle.std.proofs.Common.{◌≡◌, ◌+◌, ◌*◌, ◌-◌, ◌<◌, ◌≤◌, ℕ, ℤ, neg_ℤ, ◌*ℤ◌, unsigned_abs, Bool, true, false, not, ◌||◌, cond, nat_eq, List, [], ◌∷◌, ◌++◌, map, filter, Option, Some, None, refl, sym, ◌∙◌, ap, subst, arith}
use Rattle.std.specs.Prelude.{remove, slice_get, slice_set, count_by, All}
use Rattle.std.specs.List.{AllByRecursion, list_any}
use Rattle.std.proofs.lemmas.List.Sums.{sum_by-cons}
use Rattle.std.proofs.lemmas.List.Elements.{All-from_recursion}
use Rattle.linear_term.specs.Linear.{Linear, coef_of, mentions, without}
use Rattle.linear_term.proofs.Names.{without-free, combination-unmentioned}
use Rattle.linear_term.proofs.Totals.{by_test}
use Rattle.base_budget.specs.declared.log.Entry.TheVariants.{Equation, Apart, Merge, Shift}
use Rattle.clause_set.specs.declared.literal.Literal.{Literal}
use Rattle.clause_set.specs.declared.literal.Literal.TheVariants.{Eq, Geq, Div, NDiv}
use Rattle.clause_set.specs.Names.{has, is_equation, is_divisibility, is_indivisibility}
use Rattle.clause_set.specs.Clauses.{found, clause_of, clauses_of}
use Rattle.clause_set.specs.Bezout.{Bezout, bezout}
use Rattle.clause_set.specs.Equations.{sign_of, size_of}
use Rattle.clause_set.specs.Divisibilities.{numbers_from, with_name}
use Rattle.clause_set.specs.Rules.{applies, measure, rule}
use Rattle.clause_set.proofs.Measures.{clauses-measure, clause-free}
use Rattle.elim_rule_laws.specs.EquationResults.{solved_sum, scaled_literal, solved_literal, solved_by, equation_results, raised, split_at, apart_results, merged_term, crossed_term, merged_with, merge_results, shifted_term, shifted_literal, shifted_with, shifted_by, shift_results}
use Rattle.elim_rule_laws.proofs.EquationLists.{any-got, any-none, none-any, none-count, count-apart, count-replaced, kept-mapped}
use Rattle.elim_rule_laws.proofs.Merge.{get-removed}
use Rattle.elim_rule_laws.proofs.Shift.{IsBoundOnly}
use Rattle.elim_rule_laws.proofs.EquationValues.{equation-value, apart-value, merge-value, shift-value}
use Rattle.elim_rule_laws.proofs.Applying.{EquationAt, IndivisibilityAt, PairAt, OnlyAt, equation_applies, apart_applies, merge_applies, shift_applies}
use Rattle.elim_rule_laws.proofs.EquationExactness.{merged_from}

-- ---- terms without x
-- ---- measures
abbrev bound_of : ℕ → List Literal → ℕ
bound_of x c = 2 + 2 * count_by (is_indivisibility x) c + count_by (is_divisibility x) c

pub measure-at_most : (x : ℕ) (c : List Literal) → measure x c ≤ bound_of x c
unfolding measure
measure-at_most x c =
    by_test (λ n. n ≤ bound_of x c) (list_any (has x) c) (cond (list_any (is_equation x) c) 1 (bound_of x c)) 0
    (λ _. by_test (λ n. n ≤ bound_of x c) (list_any (is_equation x) c) 1 (bound_of x c) (λ _. omega arith) (λ _. omega arith))
    (λ _. omega arith)

measure-is : (x : ℕ) (c : List Literal) → list_any (has x) c ≡ true → list_any (is_equation x) c ≡ false → measure x c ≡ bound_of x c
unfolding measure
measure-is x c h n = ap (λ b. cond b (cond (list_any (is_equation x) c) 1 (bound_of x c)) 0) h ∙ ap (λ b. cond b 1 (bound_of x c)) n

measure-free : (x : ℕ) (c : List Literal) → list_any (has x) c ≡ false → measure x c ≡ 0
unfolding measure
measure-free x c h = ap (λ b. cond b (cond (list_any (is_equation x) c) 1 (bound_of x c)) 0) h

measure-equation : (x : ℕ) (c : List Literal) → list_any (has x) c ≡ true → list_any (is_equation x) c ≡ true → measure x c ≡ 1
unfolding measure
measure-equation x c h n = ap (λ b. cond b (cond (list_any (is_equation x) c) 1 (bound_of x c)) 0) h ∙ ap (λ b. cond b 1 (bound_of x c)) n

one_at_most : (b : Bool) → cond b 1 0 ≤ 1
one_at_most true = omega arith
one_at_most false = omega arith

-- ---- equation: x is gone
solved_sum-free : (x : ℕ) (a : ℤ) (s u : Linear) → mentions s x ≡ false → mentions (solved_sum x a s u) x ≡ false
solved_sum-free x a s u h = combination-unmentioned (size_of a) (neg_ℤ (sign_of a *ℤ coef_of u x)) (without u x) s x (without-free u x) h

scaled-free : (x : ℕ) (a : ℤ) (s : Linear) (l : Literal) → mentions s x ≡ false → has x (scaled_literal x a s l) ≡ false
scaled-free x a s (Eq u) h = solved_sum-free x a s u h
scaled-free x a s (Geq u) h = solved_sum-free x a s u h
scaled-free x a s (Div d u) h = solved_sum-free x a s u h
scaled-free x a s (NDiv d u) h = solved_sum-free x a s u h

solved-free : (x : ℕ) (a : ℤ) (s : Linear) (l : Literal) → mentions s x ≡ false → has x (solved_literal x a s l) ≡ false
solved-free x a s l h = by_test (λ m. has x m ≡ false) (has x l) (scaled_literal x a s l) l (λ _. scaled-free x a s l h) (λ free. free)

all_solved-free : (x : ℕ) (a : ℤ) (s : Linear) (ls : List Literal) → mentions s x ≡ false → list_any (has x) (map (solved_literal x a s) ls) ≡ false
all_solved-free x a s [] h = refl
all_solved-free x a s (l ∷ ls) h = ap (λ b. b || list_any (has x) (map (solved_literal x a s) ls)) (solved-free x a s l h) ∙ all_solved-free x a s ls h

abbrev Free : ℕ → List Literal → Type 0
Free x r = list_any (has x) r ≡ false

pub equation_results-free : (x i : ℕ) (c : List Literal) → applies x c (Equation i) ≡ true → AllByRecursion (Free x) (equation_results x i c)
equation_results-free x i c a =
    let h : EquationAt x i c = equation_applies x i c a in
    subst (λ o. AllByRecursion (Free x) (solved_by x (remove c i) o)) (sym h.stands) (
      ap (λ b. b || list_any (has x) (map (solved_literal x (coef_of h.term x) (without h.term x)) (remove c i))) (without-free h.term x)
          ∙ all_solved-free x (coef_of h.term x) (without h.term x) (remove c i) (without-free h.term x),
      tt,
    )

kept-append : {X : Type 0} (P : X → Type 0) (xs ys : List X) → AllByRecursion P xs → AllByRecursion P ys → AllByRecursion P (xs ++ ys)
kept-append P [] ys h k = k
kept-append P (x ∷ xs) ys h k = (h.0, kept-append P xs ys h.1 k)

found-free : (x : ℕ) (ls : List Literal) (o : Option (List Literal)) → clause_of ls ≡ o → Free x ls → AllByRecursion (Free x) (found o)
found-free x ls None e h = tt
found-free x ls (Some c) e h = (clause-free x ls c e h, tt)

clauses-free : (x : ℕ) (cs : List (List Literal)) → AllByRecursion (Free x) cs → AllByRecursion (Free x) (clauses_of cs)
clauses-free x [] h = tt
clauses-free x (c ∷ cs) h = kept-append (Free x) (found (clause_of c)) (clauses_of cs) (found-free x c (clause_of c) refl h.0) (clauses-free x cs h.1)

pub equation-free : (x i : ℕ) (c : List Literal) → applies x c (Equation i) ≡ true → All (λ r. list_any (has x) r ≡ false) (rule x c (Equation i)).value
equation-free x i c a =
    All-from_recursion (Free x) (rule x c (Equation i)).value
    (subst (AllByRecursion (Free x)) (sym (equation-value x i c)) (clauses-free x (equation_results x i c) (equation_results-free x i c a)))

-- ---- the measure falls
abbrev Falls : ℕ → List Literal → List Literal → Type 0
Falls x c r = measure x r < measure x c

equation_results-fall : (x i : ℕ) (c : List Literal) → applies x c (Equation i) ≡ true → AllByRecursion (Falls x c) (equation_results x i c)
equation_results-fall x i c a =
    let h : EquationAt x i c = equation_applies x i c a in
    let before : measure x c ≡ 1 = measure-equation x c (any-got (has x) c i (Eq h.term) h.stands h.mentioned) (any-got (is_equation x) c i (Eq h.term) h.stands h.mentioned) in
    along (equation_results x i c) before (equation_results-free x i c a)
  where
    along : (rs : List (List Literal)) → measure x c ≡ 1 → AllByRecursion (Free x) rs → AllByRecursion (Falls x c) rs
    along [] e f = tt
    along (r ∷ rs) e f = (omega (arith, e, measure-free x r f.0), along rs e f.1)

apart_results-fall : (x i : ℕ) (c : List Literal) → list_any (is_equation x) c ≡ false → applies x c (Apart i) ≡ true → AllByRecursion (Falls x c) (apart_results i c)
apart_results-fall x i c n a =
    let h : IndivisibilityAt x i c = apart_applies x i c a in
    let l : Literal = NDiv h.divisor h.term in
    let before : measure x c ≡ bound_of x c = measure-is x c (any-got (has x) c i (NDiv h.divisor h.term) h.stands h.mentioned) n in
    let one = ap {B = ℕ} (λ b. cond b 1 0) h.mentioned in
    let nots : count_by (is_indivisibility x) c ≡ cond (is_indivisibility x (NDiv h.divisor h.term)) 1 0 + count_by (is_indivisibility x) (remove c i) =
    count-apart (is_indivisibility x) c i (NDiv h.divisor h.term) h.stands in
    let divs : count_by (is_divisibility x) c ≡ 0 + count_by (is_divisibility x) (remove c i) = count-apart (is_divisibility x) c i (NDiv h.divisor h.term) h.stands in
    let each : (r : ℕ) → Falls x c (slice_set c i (Div h.divisor (raised h.term r))) = (λ r.
    let m : Literal = Div h.divisor (raised h.term r) in
    let fewer : count_by (is_indivisibility x) (slice_set c i (Div h.divisor (raised h.term r))) ≡ 0 + count_by (is_indivisibility x) (remove c i) =
    count-replaced (is_indivisibility x) c i (NDiv h.divisor h.term) (Div h.divisor (raised h.term r)) h.stands in
    let more : count_by (is_divisibility x) (slice_set c i (Div h.divisor (raised h.term r))) ≡ cond (mentions (raised h.term r) x) 1 0 + count_by (is_divisibility x) (remove c i) =
    count-replaced (is_divisibility x) c i (NDiv h.divisor h.term) (Div h.divisor (raised h.term r)) h.stands in
    omega (arith, before, one, nots, divs, fewer, more, one_at_most (mentions (raised h.term r) x), measure-at_most x (slice_set c i (Div h.divisor (raised h.term r))))) in
    subst (λ o. AllByRecursion (Falls x c) (split_at i c o)) (sym h.stands) (along (λ r. slice_set c i (Div h.divisor (raised h.term r))) each (numbers_from 1 (unsigned_abs h.divisor - 1)))
  where
    along : (f : ℕ → List Literal) → ((r : ℕ) → Falls x c (f r)) → (ns : List ℕ) → AllByRecursion (Falls x c) (map f ns)
    along f g [] = tt
    along f g (r ∷ ns) = (g r, along f g ns)

merge_results-fall : (x i j : ℕ) (c : List Literal) → list_any (is_equation x) c ≡ false → applies x c (Merge i j) ≡ true → AllByRecursion (Falls x c) (merge_results x i j c)
merge_results-fall x i j c n a =
    let h : PairAt x i j c = merge_applies x i j c a in
    let d1 : ℤ = h.first.divisor in
    let d2 : ℤ = h.second.divisor in
    let t : Linear = h.first.term in
    let u : Linear = h.second.term in
    let rest : List Literal = remove (remove c j) i in
    let z : Bezout = bezout (coef_of t x *ℤ d2) (coef_of u x *ℤ d1) in
    let before : measure x c ≡ bound_of x c = measure-is x c (any-got (has x) c i (Div d1 t) h.first.stands h.first.mentioned) n in
    let one = ap {B = ℕ} (λ b. cond b 1 0) h.first.mentioned in
    let two = ap {B = ℕ} (λ b. cond b 1 0) h.second.mentioned in
    let there : slice_get (remove c j) i ≡ Some (Div d1 t) = get-removed c i j h.before ∙ h.first.stands in
    let divs : count_by (is_divisibility x) c ≡ cond (mentions u x) 1 0 + count_by (is_divisibility x) (remove c j) = count-apart (is_divisibility x) c j (Div d2 u) h.second.stands in
    let more : count_by (is_divisibility x) (remove c j) ≡ cond (mentions t x) 1 0 + count_by (is_divisibility x) rest = count-apart (is_divisibility x) (remove c j) i (Div d1 t) there in
    let nots : count_by (is_indivisibility x) c ≡ 0 + count_by (is_indivisibility x) (remove c j) = count-apart (is_indivisibility x) c j (Div d2 u) h.second.stands in
    let others : count_by (is_indivisibility x) (remove c j) ≡ 0 + count_by (is_indivisibility x) rest = count-apart (is_indivisibility x) (remove c j) i (Div d1 t) there in
    let w : Linear = with_name x z.g (merged_term x z d1 t d2 u) in
    let free : mentions (crossed_term x t u) x ≡ false = combination-unmentioned (coef_of u x) (neg_ℤ (coef_of t x)) (without t x) (without u x) x (without-free t x) (without-free u x) in
    let none = ap {B = ℕ} (λ b. cond b 1 0) free in
    let r : List Literal = merged_with x rest z d1 t d2 u in
    let after : count_by (is_divisibility x) (merged_with x rest z d1 t d2 u) ≡ cond (mentions w x) 1 0 + (cond (mentions (crossed_term x t u) x) 1 0 + count_by (is_divisibility x) rest) =
    sum_by-cons (λ l. cond (is_divisibility x l) 1 0) (Div (d1 *ℤ d2) w) (Div z.g (crossed_term x t u) ∷ rest)
    ∙ ap (λ k. cond (mentions w x) 1 0 + k) (sum_by-cons (λ l. cond (is_divisibility x l) 1 0) (Div z.g (crossed_term x t u)) rest) in
    let same : count_by (is_indivisibility x) (merged_with x rest z d1 t d2 u) ≡ 0 + (0 + count_by (is_indivisibility x) rest) =
    sum_by-cons (λ l. cond (is_indivisibility x l) 1 0) (Div (d1 *ℤ d2) w) (Div z.g (crossed_term x t u) ∷ rest)
    ∙ ap (λ k. 0 + k) (sum_by-cons (λ l. cond (is_indivisibility x l) 1 0) (Div z.g (crossed_term x t u)) rest) in
    merged_from x i j c (AllByRecursion (Falls x c)) h
    (omega (arith, before, one, two, divs, more, nots, others, none, after, same, one_at_most (mentions w x), measure-at_most x (merged_with x rest z d1 t d2 u)), tt)

-- shifted literals are bounds, or have no x
shifted-divisibility : (x : ℕ) (d : ℤ) (z : Bezout) (t : Linear) (l : Literal) → IsBoundOnly x l → is_divisibility x (shifted_literal x d z t l) ≡ false
shifted-divisibility x d z t (Geq r) h = by_test (λ m. is_divisibility x m ≡ false) (has x (Geq r)) (Geq (shifted_term x d z t r)) (Geq r) (λ _. refl) (λ _. refl)
shifted-divisibility x d z t (Eq r) h = refl
shifted-divisibility x d z t (Div k r) h = h.no_divisibility
shifted-divisibility x d z t (NDiv k r) h = refl

shifted-indivisibility : (x : ℕ) (d : ℤ) (z : Bezout) (t : Linear) (l : Literal) → IsBoundOnly x l → is_indivisibility x (shifted_literal x d z t l) ≡ false
shifted-indivisibility x d z t (Geq r) h = by_test (λ m. is_indivisibility x m ≡ false) (has x (Geq r)) (Geq (shifted_term x d z t r)) (Geq r) (λ _. refl) (λ _. refl)
shifted-indivisibility x d z t (Eq r) h = refl
shifted-indivisibility x d z t (Div k r) h = refl
shifted-indivisibility x d z t (NDiv k r) h = h.no_indivisibility

or_none : (a b : Bool) → (a || b) ≡ false → a ≡ false
or_none true b h = absurd (cc)
or_none false b h = refl

no_equation : (x : ℕ) (ls : List Literal) → AllByRecursion (λ l. (is_equation x l || is_indivisibility x l) ≡ false) ls → AllByRecursion (λ l. is_equation x l ≡ false) ls
no_equation x [] h = tt
no_equation x (l ∷ ls) h = (or_none _ _ h.0, no_equation x ls h.1)

shift_results-fall : (x i : ℕ) (c : List Literal) → applies x c (Shift i) ≡ true → AllByRecursion (Falls x c) (shift_results x i c)
shift_results-fall x i c a =
    let h : OnlyAt x i c = shift_applies x i c a in
    let d : ℤ = h.literal.divisor in
    let t : Linear = h.literal.term in
    let z : Bezout = bezout (coef_of t x) d in
    let rest : List Literal = map (shifted_literal x d z t) (remove c i) in
    let none : list_any (is_equation x) c ≡ false = none-any (is_equation x) c (no_equation x c (any-none (λ l. is_equation x l || is_indivisibility x l) c h.none)) in
    let before : measure x c ≡ bound_of x c = measure-is x c (any-got (has x) c i (Div d t) h.literal.stands h.literal.mentioned) none in
    let divs : count_by (is_divisibility x) (map (shifted_literal x d z t) (remove c i)) ≡ 0 =
    none-count (is_divisibility x) (map (shifted_literal x d z t) (remove c i)) (kept-mapped (IsBoundOnly x) (λ l. is_divisibility x l ≡ false) (shifted_literal x d z t) (λ l b. shifted-divisibility x d z t l b) (remove c i) h.others) in
    let nots : count_by (is_indivisibility x) (map (shifted_literal x d z t) (remove c i)) ≡ 0 =
    none-count (is_indivisibility x) (map (shifted_literal x d z t) (remove c i)) (kept-mapped (IsBoundOnly x) (λ l. is_indivisibility x l ≡ false) (shifted_literal x d z t) (λ l b. shifted-indivisibility x d z t l b) (remove c i) h.others) in
    let free = ap {B = ℕ} (λ b. cond b 1 0) (without-free t x) in
    let after : count_by (is_divisibility x) (shifted_with x (remove c i) d z t) ≡ cond (mentions (without t x) x) 1 0 + count_by (is_divisibility x) (map (shifted_literal x d z t) (remove c i)) =
    sum_by-cons (λ l. cond (is_divisibility x l) 1 0) (Div z.g (without t x)) (map (shifted_literal x d z t) (remove c i)) in
    let same : count_by (is_indivisibility x) (shifted_with x (remove c i) d z t) ≡ 0 + count_by (is_indivisibility x) (map (shifted_literal x d z t) (remove c i)) =
    sum_by-cons (λ l. cond (is_indivisibility x l) 1 0) (Div z.g (without t x)) (map (shifted_literal x d z t) (remove c i)) in
    subst (λ o. AllByRecursion (Falls x c) (shifted_by x (remove c i) o)) (sym h.literal.stands)
    (omega (arith, before, h.one, divs, nots, free, after, same, measure-at_most x (shifted_with x (remove c i) d z t)), tt)

-- ---- through the form
fall : (x : ℕ) (c : List Literal) (rs vs : List (List Literal)) → vs ≡ clauses_of rs → AllByRecursion (Falls x c) rs → All (λ r. measure x r < measure x c) vs
fall x c rs vs is h =
    All-from_recursion (Falls x c) vs (subst (AllByRecursion (Falls x c)) (sym is) (clauses-measure x (measure x c) rs h))

pub equation-falls : (x i : ℕ) (c : List Literal) → applies x c (Equation i) ≡ true → All (λ r. measure x r < measure x c) (equation_results x i c)
equation-falls x i c a = All-from_recursion (Falls x c) (equation_results x i c) (equation_results-fall x i c a)

pub equation-nearer : (x i : ℕ) (c : List Literal) → applies x c (Equation i) ≡ true → All (λ r. measure x r < measure x c) (rule x c (Equation i)).value
equation-nearer x i c a = fall x c (equation_results x i c) (rule x c (Equation i)).value (equation-value x i c) (equation_results-fall x i c a)

pub apart-falls : (x i : ℕ) (c : List Literal) → list_any (is_equation x) c ≡ false → applies x c (Apart i) ≡ true → All (λ r. measure x r < measure x c) (apart_results i c)
apart-falls x i c n a = All-from_recursion (Falls x c) (apart_results i c) (apart_results-fall x i c n a)

pub apart-nearer : (x i : ℕ) (c : List Literal) → list_any (is_equation x) c ≡ false → applies x c (Apart i) ≡ true → All (λ r. measure x r < measure x c) (rule x c (Apart i)).value
apart-nearer x i c n a = fall x c (apart_results i c) (rule x c (Apart i)).value (apart-value x i c) (apart_results-fall x i c n a)

pub merge-falls : (x i j : ℕ) (c : List Literal) → list_any (is_equation x) c ≡ false → applies x c (Merge i j) ≡ true → All (λ r. measure x r < measure x c) (merge_results x i j c)
merge-falls x i j c n a = All-from_recursion (Falls x c) (merge_results x i j c) (merge_results-fall x i j c n a)

pub merge-nearer : (x i j : ℕ) (c : List Literal) → list_any (is_equation x) c ≡ false → applies x c (Merge i j) ≡ true → All (λ r. measure x r < measure x c) (rule x c (Merge i j)).value
merge-nearer x i j c n a = fall x c (merge_results x i j c) (rule x c (Merge i j)).value (merge-value x i j c) (merge_results-fall x i j c n a)

pub shift-falls : (x i : ℕ) (c : List Literal) → applies x c (Shift i) ≡ true → All (λ r. measure x r < measure x c) (shift_results x i c)
shift-falls x i c a = All-from_recursion (Falls x c) (shift_results x i c) (shift_results-fall x i c a)

pub shift-nearer : (x i : ℕ) (c : List Literal) → applies x c (Shift i) ≡ true → All (λ r. measure x r < measure x c) (rule x c (Shift i)).value
shift-nearer x i c a = fall x c (shift_results x i c) (rule x c (Shift i)).value (shift-value x i c) (shift_results-fall x i c a)
