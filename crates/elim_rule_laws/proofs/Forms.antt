-- The results of the rules, put into form: they keep their truth, since they speak of integers.
use Rattle.std.proofs.Common.{◌≡◌, ◌<◌, ℕ, ℤ, pos, negsuc, true, not, List, [], ◌∷◌, ◌++◌, map, get_or, sym, ◌∙◌, ap, subst, arith}
use Rattle.std.specs.Prelude.{All, ◌↔◌}
use Rattle.std.specs.List.{flat_map, AllByRecursion}
use Rattle.std.proofs.lemmas.List.Elements.{All-nil, All-cons, All-append, All-filter, All-map, All-weaker, recursion_from_All, All-from_recursion}
use Rattle.base_integers.specs.Entry.{put}
use Rattle.linear_term.specs.Linear.{Linear, IsReduced, number}
use Rattle.linear_term.specs.Combination.{combination}
use Rattle.linear_term.proofs.Names.{reduced-combination, reduced-without}
use Rattle.base_budget.specs.declared.log.Entry.TheVariants.{OneSided, Exact, Dark}
use Rattle.clause_set.specs.declared.literal.Literal.{Literal}
use Rattle.clause_set.specs.declared.literal.Literal.TheVariants.{Eq, Geq}
use Rattle.clause_set.specs.Literals.{term_of, dnf_truth}
use Rattle.clause_set.specs.Formed.{IsFormed}
use Rattle.clause_set.specs.Literals.{IsLiteral}
use Rattle.clause_set.specs.Met.{IsMet}
use Rattle.clause_set.specs.Clauses.{clauses_of}
use Rattle.clause_set.specs.Names.{has, others, remainder, is_lower, is_upper}
use Rattle.clause_set.specs.Divisibilities.{numbers_from}
use Rattle.clause_set.specs.Shadows.{lowers, uppers, factor, greatest_factor, splinter_count}
use Rattle.clause_set.specs.Rules.{applies, rule, measure}
use Rattle.clause_set.proofs.Formed.{clauses-formed}
use Rattle.clause_set.proofs.Operations.{clauses_of-truth}
use Rattle.clause_set.proofs.Measures.{clauses-measure}
use Rattle.elim_rule_laws.specs.ShadowResults.{shadow_term, dark_term, inequalities, with_splinter, splinters_of, one_sided_results, exact_results, dark_results}
use Rattle.elim_rule_laws.proofs.ShadowLists.{All-flat_map}
use Rattle.elim_rule_laws.proofs.ShadowExactness.{one_sided-met, exact-met, dark-met}
use Rattle.elim_rule_laws.proofs.ShadowProgress.{one_sided-falls, exact-falls, dark-falls}
use Rattle.elim_rule_laws.proofs.ShadowValues.{one_sided-value, exact-value, dark-value}

by_recursion : (ds : List (List Literal)) → All (λ d. All IsLiteral d) ds → AllByRecursion (AllByRecursion IsLiteral) ds
by_recursion ds h =
    recursion_from_All (AllByRecursion IsLiteral) ds (All-weaker (λ d. All IsLiteral d) (AllByRecursion IsLiteral) (λ d k. recursion_from_All IsLiteral d k) ds h)

-- ---- results speak of integers
number-reduced : (k : ℤ) → IsReduced (number k)
number-reduced k = record { rising = tt; not_zero = λ i d lt. absurd (omega arith) }

geq-proper : (t : Linear) → IsReduced t → IsLiteral (Geq t)
geq-proper t h = record { term = h; divisor = tt }

shadow-proper : (x : ℕ) (low up : Literal) → IsLiteral low → IsLiteral up → IsReduced (shadow_term x low up)
shadow-proper x low up h k =
    reduced-combination (factor x low) (factor x up) (remainder x up) (remainder x low) (reduced-without (term_of up) x k.term) (reduced-without (term_of low) x h.term)

dark-proper : (x : ℕ) (low up : Literal) → IsLiteral low → IsLiteral up → IsReduced (dark_term x low up)
dark-proper x low up h k = reduced-combination (pos 1) (negsuc 0) (shadow_term x low up) (number _) (shadow-proper x low up h k) (number-reduced _)

inequalities-proper : (f : Literal → Literal → Linear) → ((low up : Literal) → IsLiteral low → IsLiteral up → IsReduced (f low up))
    → (lows ups : List Literal) → All IsLiteral lows → All IsLiteral ups → All IsLiteral (inequalities f lows ups)
inequalities-proper f reduced lows ups h k =
    All-flat_map IsLiteral (λ low. map (λ up. Geq (f low up)) ups) lows
    (λ i d lt. All-map IsLiteral (λ up. Geq (f (get_or lows i d) up)) ups
    (λ j e le. geq-proper (f (get_or lows i d) (get_or ups j e)) (reduced (get_or lows i d) (get_or ups j e) (h i d lt) (k j e le))))

others-proper : (x : ℕ) (c : List Literal) → All IsLiteral c → All IsLiteral (others x c)
others-proper x c h = All-filter (λ l. not (has x l)) IsLiteral c h

shadows-proper : (x : ℕ) (f : Literal → Literal → Linear) → ((low up : Literal) → IsLiteral low → IsLiteral up → IsReduced (f low up))
    → (c : List Literal) → All IsLiteral c → All IsLiteral (others x c ++ inequalities f (lowers x c) (uppers x c))
shadows-proper x f reduced c h =
    All-append IsLiteral (others x c) (inequalities f (lowers x c) (uppers x c)) (others-proper x c h)
    (inequalities-proper f reduced (lowers x c) (uppers x c) (All-filter (is_lower x) IsLiteral c h) (All-filter (is_upper x) IsLiteral c h))

splinter-proper : (c : List Literal) (low : Literal) (i : ℕ) → All IsLiteral c → IsLiteral low → All IsLiteral (with_splinter c low i)
splinter-proper c low i h k =
    let term : Linear = combination (pos 1) (term_of low) (negsuc 0) (number (pos i)) in
    All-append IsLiteral c (Eq term ∷ []) h
    (All-cons IsLiteral (Eq term) [] (record { term = reduced-combination (pos 1) (negsuc 0) (term_of low) (number (pos i)) k.term (number-reduced (pos i)); divisor = tt }) (All-nil IsLiteral))

splinters-proper : (x : ℕ) (c : List Literal) (a : ℤ) → All IsLiteral c → All (λ d. All IsLiteral d) (flat_map (splinters_of x c a) (lowers x c))
splinters-proper x c a h =
    let lows = All-filter (is_lower x) IsLiteral c h in
    All-flat_map (λ d. All IsLiteral d) (splinters_of x c a) (lowers x c)
    (λ k d lt. All-map (λ d. All IsLiteral d) (with_splinter c (get_or (lowers x c) k d)) (numbers_from 0 (splinter_count a (factor x (get_or (lowers x c) k d))))
    (λ j e le. splinter-proper c (get_or (lowers x c) k d) (get_or (numbers_from 0 (splinter_count a (factor x (get_or (lowers x c) k d)))) j e) h (lows k d lt)))

one_proper : (d : List Literal) → All IsLiteral d → All (λ d. All IsLiteral d) (d ∷ [])
one_proper d h = All-cons (λ d. All IsLiteral d) d [] h (All-nil (λ d. All IsLiteral d))

pub one_sided-proper : (x : ℕ) (c : List Literal) → All IsLiteral c → All (λ d. All IsLiteral d) (one_sided_results x c)
one_sided-proper x c h = one_proper (others x c) (others-proper x c h)

pub exact-proper : (x : ℕ) (c : List Literal) → All IsLiteral c → All (λ d. All IsLiteral d) (exact_results x c)
exact-proper x c h =
    one_proper (others x c ++ inequalities (shadow_term x) (lowers x c) (uppers x c)) (shadows-proper x (shadow_term x) (shadow-proper x) c h)

pub dark_results-proper : (x : ℕ) (c : List Literal) → All IsLiteral c → All (λ d. All IsLiteral d) (dark_results x c)
dark_results-proper x c h =
    All-cons (λ d. All IsLiteral d) (others x c ++ inequalities (dark_term x) (lowers x c) (uppers x c)) (flat_map (splinters_of x c (pos (greatest_factor x (uppers x c)))) (lowers x c))
    (shadows-proper x (dark_term x) (dark-proper x) c h) (splinters-proper x c (pos (greatest_factor x (uppers x c))) h)

-- ---- the rules
met_in_form : (x : ℕ) (c : List Literal) (e : List ℤ) (ds value : List (List Literal)) → value ≡ clauses_of ds → All (λ d. All IsLiteral d) ds
    → IsMet (c ∷ []) x e ↔ IsMet ds x e → IsMet (c ∷ []) x e ↔ IsMet value x e
met_in_form x c e ds value is proper h = (
  λ m. let r = h.0 m in (r.0, ap (λ v. dnf_truth v (put e x r.0)) is ∙ clauses_of-truth ds (put e x r.0) (recursion_from_All (λ d. All IsLiteral d) ds proper) ∙ r.1),
  λ m. h.1 (m.0, sym (ap (λ v. dnf_truth v (put e x m.0)) is ∙ clauses_of-truth ds (put e x m.0) (recursion_from_All (λ d. All IsLiteral d) ds proper)) ∙ m.1),
)

pub one_sided-kept : (x : ℕ) (c : List Literal) (e : List ℤ) → All IsLiteral c → applies x c OneSided ≡ true → IsMet (c ∷ []) x e ↔ IsMet (rule x c OneSided).value x e
one_sided-kept x c e h a = met_in_form x c e (one_sided_results x c) (rule x c OneSided).value (one_sided-value x c) (one_sided-proper x c h) (one_sided-met x c e h a)

pub exact-kept : (x : ℕ) (c : List Literal) (e : List ℤ) → All IsLiteral c → applies x c Exact ≡ true → IsMet (c ∷ []) x e ↔ IsMet (rule x c Exact).value x e
exact-kept x c e h a = met_in_form x c e (exact_results x c) (rule x c Exact).value (exact-value x c) (exact-proper x c h) (exact-met x c e h a)

pub dark-kept : (x : ℕ) (c : List Literal) (e : List ℤ) → All IsLiteral c → applies x c Dark ≡ true → IsMet (c ∷ []) x e ↔ IsMet (rule x c Dark).value x e
dark-kept x c e h a = met_in_form x c e (dark_results x c) (rule x c Dark).value (dark-value x c) (dark_results-proper x c h) (dark-met x c e h a)

-- the results in form are clauses again
formed_by : (ds value : List (List Literal)) → value ≡ clauses_of ds → All (λ d. All IsLiteral d) ds → All (λ r. All IsFormed r) value
formed_by ds value is proper =
    let formed = clauses-formed ds (by_recursion ds proper) in
    subst (All (λ r. All IsFormed r)) (sym is)
    (All-weaker (AllByRecursion IsFormed) (λ r. All IsFormed r) (λ r h. All-from_recursion IsFormed r h) (clauses_of ds)
    (All-from_recursion (AllByRecursion IsFormed) (clauses_of ds) formed))

-- and nearer to being without x
nearer_by : (x n : ℕ) (ds value : List (List Literal)) → value ≡ clauses_of ds → All (λ r. measure x r < n) ds → All (λ r. measure x r < n) value
nearer_by x n ds value is falls =
    subst (All (λ r. measure x r < n)) (sym is)
    (All-from_recursion (λ r. measure x r < n) (clauses_of ds) (clauses-measure x n ds (recursion_from_All (λ r. measure x r < n) ds falls)))

pub one_sided-formed : (x : ℕ) (c : List Literal) → All IsLiteral c → All (λ r. All IsFormed r) (rule x c OneSided).value
one_sided-formed x c h = formed_by (one_sided_results x c) (rule x c OneSided).value (one_sided-value x c) (one_sided-proper x c h)

pub one_sided-nearer : (x : ℕ) (c : List Literal) → applies x c OneSided ≡ true → All (λ r. measure x r < measure x c) (rule x c OneSided).value
one_sided-nearer x c a = nearer_by x (measure x c) (one_sided_results x c) (rule x c OneSided).value (one_sided-value x c) (one_sided-falls x c a)

pub exact-formed : (x : ℕ) (c : List Literal) → All IsLiteral c → All (λ r. All IsFormed r) (rule x c Exact).value
exact-formed x c h = formed_by (exact_results x c) (rule x c Exact).value (exact-value x c) (exact-proper x c h)

pub exact-nearer : (x : ℕ) (c : List Literal) → applies x c Exact ≡ true → All (λ r. measure x r < measure x c) (rule x c Exact).value
exact-nearer x c a = nearer_by x (measure x c) (exact_results x c) (rule x c Exact).value (exact-value x c) (exact-falls x c a)

pub dark-formed : (x : ℕ) (c : List Literal) → All IsLiteral c → All (λ r. All IsFormed r) (rule x c Dark).value
dark-formed x c h = formed_by (dark_results x c) (rule x c Dark).value (dark-value x c) (dark_results-proper x c h)

pub dark-nearer : (x : ℕ) (c : List Literal) → applies x c Dark ≡ true → All (λ r. measure x r < measure x c) (rule x c Dark).value
dark-nearer x c a = nearer_by x (measure x c) (dark_results x c) (rule x c Dark).value (dark-value x c) (dark-falls x c a)
