-- Other names do not come in.
use Rattle.std.proofs.Common.{◌≡◌, ◌≢◌, ℕ, zero, suc, ℤ, pos, Bool, true, false, not, cond, nat_eq, List, [], ◌∷◌, ◌++◌, map, filter, Option, Some, None, refl, sym, ◌∙◌, ap, subst, arith}
use Rattle.std.specs.Prelude.{slice_get, slice_set, remove}
use Rattle.std.specs.List.{AllByRecursion, flat_map}
use Rattle.std.proofs.lemmas.Bool.Decides.{nat_tests}
use Rattle.linear_term.specs.Linear.{Linear, mentions, has_name, without, number, name, coef_of}
use Rattle.linear_term.proofs.Names.{combination-unmentioned}
use Rattle.linear_term.proofs.Totals.{by_test}
use Rattle.base_budget.specs.declared.log.Entry.{Entry}
use Rattle.base_budget.specs.declared.log.Entry.TheVariants.{Equation, Apart, Merge, Shift, OneSided, Exact, Dark}
use Rattle.base_budget.specs.Trace.{just, step, next}
use Rattle.base_budget.proofs.Tracing.{each-value}
use Rattle.clause_set.specs.declared.literal.Literal.{Literal}
use Rattle.clause_set.specs.declared.literal.Literal.TheVariants.{Eq, Geq, Div, NDiv}
use Rattle.clause_set.specs.Literals.{term_of}
use Rattle.clause_set.specs.Names.{has, others, coefficient, remainder}
use Rattle.clause_set.specs.Bezout.{Bezout, bezout}
use Rattle.clause_set.specs.Clauses.{clause_of, found, clauses_of}
use Rattle.clause_set.specs.Divisibilities.{numbers_from}
use Rattle.clause_set.specs.Rules.{rule, first_rule, measure}
use Rattle.clause_set.specs.Shadows.{lowers, uppers, greatest_factor, splinter_count, factor}
use Rattle.clause_set.proofs.Divisors.{kept-append}
use Rattle.clause_set.proofs.Measures.{clause-free}
use Rattle.elim_rule_laws.proofs.EquationLists.{any-none, none-any, kept-mapped, kept-removed, kept-got, kept-replaced}
use Rattle.elim_rule_laws.proofs.EquationValues.{equation-value, apart-value, merge-value, shift-value}
use Rattle.elim_rule_laws.specs.EquationResults.{scaled_literal, solved_literal, solved_by, split_at, raised, joined_second, joined_first, shifted_literal, shifted_by, shifted_term}
use Rattle.elim_rule_laws.proofs.ShadowValues.{one_sided-value, exact-value, dark-value}
use Rattle.elim_rule_laws.specs.ShadowResults.{shadow_term, dark_term, inequalities, with_splinter, splinters_of, one_sided_results, exact_results, dark_results}
use Rattle.elim_laws.specs.Elimination.{by_first, rules_deep, taken_out, exists_name}
use Rattle.elim_laws.specs.Whole.{Lacks}
use Rattle.clause_set.proofs.Kept.{tidied-kept}

-- ---- terms
neither : (b r : Bool) → cond b true r ≡ false → (b ≡ false) × (r ≡ false)
neither true r h = absurd (cc)
neither false r h = (refl, h)

filter_lacks : (x y : ℕ) (ps : List (ℕ × ℤ)) → has_name ps y ≡ false → has_name (filter (λ p. not (nat_eq p.0 x)) ps) y ≡ false
filter_lacks x y [] h = refl
filter_lacks x y (p ∷ ps) h =
    let n = neither (nat_eq p.0 y) (has_name ps y) h in
    let rest = filter_lacks x y ps n.1 in
    by_test (λ qs. has_name qs y ≡ false) (not (nat_eq p.0 x)) (p ∷ filter (λ q. not (nat_eq q.0 x)) ps) (filter (λ q. not (nat_eq q.0 x)) ps)
    (λ _. ap (λ b. cond b true (has_name (filter (λ q. not (nat_eq q.0 x)) ps) y)) n.0 ∙ rest) (λ _. rest)

without-lacks : (t : Linear) (x y : ℕ) → mentions t y ≡ false → mentions (without t x) y ≡ false
unfolding mentions without
without-lacks t x y h = filter_lacks x y t.pairs h

pub number-lacks : (k : ℤ) (y : ℕ) → mentions (number k) y ≡ false
unfolding mentions
number-lacks k y = refl

name-lacks : (x y : ℕ) → y ≢ x → mentions (name x) y ≡ false
unfolding mentions
name-lacks x y n = let e : nat_eq x y ≡ false = grind (arith, nat_tests) in ap (λ b. cond b true false) e

-- ---- lists
all_mapped : {X Y : Type 0} (Q : Y → Type 0) (f : X → Y) (xs : List X) → ((x : X) → Q (f x)) → AllByRecursion Q (map f xs)
all_mapped Q f [] h = tt
all_mapped Q f (x ∷ xs) h = (h x, all_mapped Q f xs h)

pub all_flat : {X Y : Type 0} (P : X → Type 0) (Q : Y → Type 0) (f : X → List Y) (xs : List X) → ((x : X) → P x → AllByRecursion Q (f x)) → AllByRecursion P xs → AllByRecursion Q (flat_map f xs)
all_flat P Q f [] h k = tt
all_flat P Q f (x ∷ xs) h k = kept-append Q (f x) _ (h x k.0) (all_flat P Q f xs h k.1)

filter_all : {X : Type 0} (P : X → Type 0) (test : X → Bool) (xs : List X) → AllByRecursion P xs → AllByRecursion P (filter test xs)
filter_all P test [] h = tt
filter_all P test (x ∷ xs) h = by_test (AllByRecursion P) (test x) (x ∷ filter test xs) (filter test xs) (λ _. (h.0, filter_all P test xs h.1)) (λ _. filter_all P test xs h.1)

-- ---- results
scaled-lacks : (x y : ℕ) (a : ℤ) (s : Linear) (l : Literal) → mentions s y ≡ false → has y l ≡ false → has y (scaled_literal x a s l) ≡ false
scaled-lacks x y a s (Eq u) h k = combination-unmentioned _ _ _ _ y (without-lacks u x y k) h
scaled-lacks x y a s (Geq u) h k = combination-unmentioned _ _ _ _ y (without-lacks u x y k) h
scaled-lacks x y a s (Div d u) h k = combination-unmentioned _ _ _ _ y (without-lacks u x y k) h
scaled-lacks x y a s (NDiv d u) h k = combination-unmentioned _ _ _ _ y (without-lacks u x y k) h

solved-lacks : (x y : ℕ) (a : ℤ) (s : Linear) → mentions s y ≡ false → (l : Literal) → has y l ≡ false → has y (solved_literal x a s l) ≡ false
solved-lacks x y a s h l k = by_test (λ m. has y m ≡ false) (has x l) (scaled_literal x a s l) l (λ _. scaled-lacks x y a s l h k) (λ _. k)

module _ (x y : ℕ) (c : List Literal) (lacks : Lacks y c) where
  got : (i : ℕ) (l : Literal) → slice_get c i ≡ Some l → has y l ≡ false
  got i l is = kept-got (λ l. has y l ≡ false) c i l is lacks

  equation-lacks : (i : ℕ) (o : Option Literal) → slice_get c i ≡ o → AllByRecursion (Lacks y) (solved_by x (remove c i) o)
  equation-lacks i None is = tt
  equation-lacks i (Some l) is =
      let r = without-lacks (term_of l) x y (got i l is) in
      ((r, kept-mapped (λ l. has y l ≡ false) (λ l. has y l ≡ false) (solved_literal x (coefficient x l) (remainder x l)) (solved-lacks x y (coefficient x l) (remainder x l) r) (remove c i) (kept-removed _ c i lacks)), tt)

  apart-lacks : (i : ℕ) (o : Option Literal) → slice_get c i ≡ o → AllByRecursion (Lacks y) (split_at i c o)
  apart-lacks i (Some (NDiv d t)) is =
      all_mapped (Lacks y) (λ r. slice_set c i (Div d (raised t r))) (numbers_from 1 _) (λ r. kept-replaced (λ l. has y l ≡ false) c i (Div d (raised t r)) (combination-unmentioned _ _ _ _ y (got i (NDiv d t) is) (number-lacks _ y)) lacks)
  apart-lacks i (Some (Eq t)) is = tt
  apart-lacks i (Some (Geq t)) is = tt
  apart-lacks i (Some (Div d t)) is = tt
  apart-lacks i None is = tt

  second-lacks : y ≢ x → (j : ℕ) (rest : List Literal) (d1 : ℤ) (t : Linear) → Lacks y rest → mentions t y ≡ false → (o : Option Literal) → slice_get c j ≡ o → AllByRecursion (Lacks y) (joined_second x rest d1 t o)
  second-lacks n j rest d1 t h k (Some (Div d2 u)) is =
      let a = without-lacks t x y k in
      let b = without-lacks u x y (got j (Div d2 u) is) in
      ((combination-unmentioned _ _ _ _ y (combination-unmentioned _ _ _ _ y a b) (name-lacks x y n), (combination-unmentioned _ _ _ _ y a b, h)), tt)
  second-lacks n j rest d1 t h k (Some (Eq u)) is = tt
  second-lacks n j rest d1 t h k (Some (Geq u)) is = tt
  second-lacks n j rest d1 t h k (Some (NDiv d u)) is = tt
  second-lacks n j rest d1 t h k None is = tt

  merge-lacks : y ≢ x → (i j : ℕ) (o : Option Literal) → slice_get c i ≡ o → AllByRecursion (Lacks y) (joined_first x (remove (remove c j) i) o (slice_get c j))
  merge-lacks n i j (Some (Div d1 t)) is = second-lacks n j (remove (remove c j) i) d1 t (kept-removed _ (remove c j) i (kept-removed _ c j lacks)) (got i (Div d1 t) is) (slice_get c j) refl
  merge-lacks n i j (Some (Eq t)) is = tt
  merge-lacks n i j (Some (Geq t)) is = tt
  merge-lacks n i j (Some (NDiv d t)) is = tt
  merge-lacks n i j None is = tt

  shifted-lacks : y ≢ x → (d : ℤ) (z : Bezout) (t : Linear) → mentions t y ≡ false → (l : Literal) → has y l ≡ false → has y (shifted_literal x d z t l) ≡ false
  shifted-lacks n d z t h (Geq r) k =
      by_test (λ m. has y m ≡ false) (has x (Geq r)) (Geq (shifted_term x d z t r)) (Geq r)
      (λ _. combination-unmentioned _ _ _ _ y (combination-unmentioned _ _ _ _ y (without-lacks r x y k) (without-lacks t x y h)) (name-lacks x y n)) (λ _. k)
  shifted-lacks n d z t h (Eq r) k = k
  shifted-lacks n d z t h (Div e r) k = k
  shifted-lacks n d z t h (NDiv e r) k = k

  shift-lacks : y ≢ x → (i : ℕ) (o : Option Literal) → slice_get c i ≡ o → AllByRecursion (Lacks y) (shifted_by x (remove c i) o)
  shift-lacks n i (Some (Div d t)) is =
      let h = got i (Div d t) is in
      ((without-lacks t x y h, kept-mapped (λ l. has y l ≡ false) (λ l. has y l ≡ false) (shifted_literal x d (bezout (coef_of t x) d) t) (shifted-lacks n d (bezout (coef_of t x) d) t h) (remove c i) (kept-removed _ c i lacks)), tt)
  shift-lacks n i (Some (Eq t)) is = tt
  shift-lacks n i (Some (Geq t)) is = tt
  shift-lacks n i (Some (NDiv d t)) is = tt
  shift-lacks n i None is = tt

  shadow-lacks : (low up : Literal) → has y low ≡ false → has y up ≡ false → mentions (shadow_term x low up) y ≡ false
  shadow-lacks low up h k = combination-unmentioned _ _ _ _ y (without-lacks (term_of up) x y k) (without-lacks (term_of low) x y h)

  dark-lacks : (low up : Literal) → has y low ≡ false → has y up ≡ false → mentions (dark_term x low up) y ≡ false
  dark-lacks low up h k = combination-unmentioned _ _ _ _ y (shadow-lacks low up h k) (number-lacks _ y)

  pairs-lack : (f : Literal → Literal → Linear) → ((low up : Literal) → has y low ≡ false → has y up ≡ false → mentions (f low up) y ≡ false) → Lacks y (others x c ++ inequalities f (lowers x c) (uppers x c))
  pairs-lack f h =
      kept-append (λ l. has y l ≡ false) (others x c) _ (filter_all _ _ c lacks)
      (all_flat (λ l. has y l ≡ false) (λ l. has y l ≡ false) (λ low. map (λ up. Geq (f low up)) (uppers x c)) (lowers x c)
      (λ low k. kept-mapped (λ l. has y l ≡ false) (λ l. has y l ≡ false) (λ up. Geq (f low up)) (λ up m. h low up k m) (uppers x c) (filter_all _ _ c lacks)) (filter_all _ _ c lacks))

  splinters-lack : (a : ℤ) → AllByRecursion (Lacks y) (flat_map (splinters_of x c a) (lowers x c))
  splinters-lack a =
      all_flat (λ l. has y l ≡ false) (Lacks y) (splinters_of x c a) (lowers x c)
      (λ low k. all_mapped (Lacks y) (with_splinter c low) (numbers_from 0 (splinter_count a (factor x low))) (λ i. kept-append (λ l. has y l ≡ false) c _ lacks (combination-unmentioned _ _ _ _ y k (number-lacks _ y), tt)))
      (filter_all _ _ c lacks)

-- ---- clauses
pub found-lacks : (y : ℕ) (ls : List Literal) → Lacks y ls → AllByRecursion (Lacks y) (found (clause_of ls))
found-lacks y ls h = by (clause_of ls) refl
  where
    by : (o : Option (List Literal)) → clause_of ls ≡ o → AllByRecursion (Lacks y) (found o)
    by None is = tt
    by (Some c) is = (any-none (has y) c (clause-free y ls c is (none-any (has y) ls h)), tt)

pub clauses-lack : (y : ℕ) (ds : List (List Literal)) → AllByRecursion (Lacks y) ds → AllByRecursion (Lacks y) (clauses_of ds)
clauses-lack y [] h = tt
clauses-lack y (d ∷ ds) h = kept-append (Lacks y) (found (clause_of d)) _ (found-lacks y d h.0) (clauses-lack y ds h.1)

by_value : (y : ℕ) (ds vs : List (List Literal)) → vs ≡ clauses_of ds → AllByRecursion (Lacks y) ds → AllByRecursion (Lacks y) vs
by_value y ds vs is h = subst (AllByRecursion (Lacks y)) (sym is) (clauses-lack y ds h)

-- a name other than x that is not in c is not in what a rule leaves
pub rule-lacks : (x y : ℕ) (c : List Literal) (e : Entry) → y ≢ x → Lacks y c → AllByRecursion (Lacks y) (rule x c e).value
rule-lacks x y c (Equation i) n h = by_value y _ _ (equation-value x i c) (equation-lacks x y c h i (slice_get c i) refl)
rule-lacks x y c (Apart i) n h = by_value y _ _ (apart-value x i c) (apart-lacks x y c h i (slice_get c i) refl)
rule-lacks x y c (Merge i j) n h = by_value y _ _ (merge-value x i j c) (merge-lacks x y c h n i j (slice_get c i) refl)
rule-lacks x y c (Shift i) n h = by_value y _ _ (shift-value x i c) (shift-lacks x y c h n i (slice_get c i) refl)
rule-lacks x y c OneSided n h = by_value y (one_sided_results x c) _ (one_sided-value x c) (filter_all _ _ c h, tt)
rule-lacks x y c Exact n h = by_value y (exact_results x c) _ (exact-value x c) (pairs-lack x y c h (shadow_term x) (shadow-lacks x y c h), tt)
rule-lacks x y c Dark n h = by_value y (dark_results x c) _ (dark-value x c) (pairs-lack x y c h (dark_term x) (dark-lacks x y c h), splinters-lack x y c h (pos (greatest_factor x (uppers x c))))

rules_deep-lacks : (x y n : ℕ) (c : List Literal) → y ≢ x → Lacks y c → AllByRecursion (Lacks y) (rules_deep x n c).value
unfolding next just step
rules_deep-lacks x y zero c d h = (h, tt)
rules_deep-lacks x y (suc n) c d h = by (first_rule x c) (λ r k. rules_deep-lacks x y n r d k)
  where
    by : (o : Option Entry) → ((r : List Literal) → Lacks y r → AllByRecursion (Lacks y) (rules_deep x n r).value) → AllByRecursion (Lacks y) (by_first (rules_deep x n) x c o).value
    by None f = (h, tt)
    by (Some e) f =
        subst (AllByRecursion (Lacks y)) (sym (each-value (rules_deep x n) (rule x c e).value []))
        (all_flat (Lacks y) (Lacks y) (λ r. (rules_deep x n r).value) (rule x c e).value f (rule-lacks x y c e d h))

taken_out-lacks : (x y : ℕ) → y ≢ x → (c : List Literal) → Lacks y c → AllByRecursion (Lacks y) (taken_out x c).value
unfolding taken_out
taken_out-lacks x y n c h = rules_deep-lacks x y (suc (measure x c)) c n h

-- other names do not come in where x goes out
pub exists_name-lacks : (x y : ℕ) (d : List (List Literal)) → y ≢ x → AllByRecursion (Lacks y) d → AllByRecursion (Lacks y) (exists_name x d).value
unfolding next just step
exists_name-lacks x y d n h =
    tidied-kept (Lacks y) _ (subst (AllByRecursion (Lacks y)) (sym (each-value (taken_out x) d []))
    (all_flat (Lacks y) (Lacks y) (λ c. (taken_out x c).value) d (taken_out-lacks x y n) h))
