-- A name out of clauses in form leaves clauses in form.
use Rattle.std.proofs.Common.{◌≡◌, ◌≢◌, ◌<◌, ◌≤◌, ℕ, zero, suc, ℤ, true, false, List, [], ◌∷◌, Option, Some, None, refl, sym, subst, arith}
use Rattle.std.specs.Prelude.{All, ◌↔◌, ◌⊎◌}
use Rattle.std.specs.List.{AllByRecursion, list_any}
use Rattle.std.proofs.lemmas.Bool.{cases_lt}
use Rattle.std.proofs.lemmas.List.Elements.{All-from_recursion, recursion_from_All}
use mathlib.Core.Logic.{inl, inr}
use Rattle.base_budget.specs.declared.log.Entry.{Entry}
use Rattle.base_budget.specs.declared.log.Entry.TheVariants.{Equation, Apart, Merge, Shift, OneSided, Exact, Dark}
use Rattle.base_budget.specs.Trace.{just, step, next}
use Rattle.base_budget.proofs.Tracing.{each-value}
use Rattle.clause_set.specs.declared.literal.Literal.{Literal}
use Rattle.clause_set.specs.Literals.{IsLiteral, dnf_truth}
use Rattle.clause_set.specs.Formed.{IsFormed}
use Rattle.clause_set.specs.Kept.{AreFormed}
use Rattle.clause_set.specs.Met.{IsMet}
use Rattle.clause_set.specs.Names.{has}
use Rattle.clause_set.specs.Primitive.{IsShaped}
use Rattle.clause_set.specs.Clauses.{clauses_of}
use Rattle.clause_set.specs.Rules.{rule, applies, first_rule, measure}
use Rattle.clause_set.proofs.Shapes.{clauses-shaped}
use Rattle.clause_set.proofs.Kept.{tidied-kept}
use Rattle.elim_rule_laws.proofs.EquationLists.{kept-weaker, any-none}
use Rattle.elim_rule_laws.proofs.EquationExactness.{equation-exact, apart-exact, merge-exact, shift-exact}
use Rattle.elim_rule_laws.proofs.EquationValues.{equation-value, apart-value, merge-value, shift-value}
use Rattle.elim_rule_laws.specs.ShadowResults.{one_sided_results, exact_results, dark_results}
use Rattle.elim_rule_laws.proofs.ShadowValues.{one_sided-value, exact-value, dark-value}
use Rattle.elim_rule_laws.proofs.Forms.{one_sided-proper, exact-proper, dark_results-proper}
use Rattle.elim_laws.specs.Elimination.{IsOut, by_first, rules_deep, taken_out, exists_name}
use Rattle.elim_laws.specs.Whole.{Lacks}
use Rattle.elim_laws.proofs.First.{first_is_rule}
use Rattle.elim_laws.proofs.Forms.{literals_of_clause}
use Rattle.elim_laws.proofs.Names.{all_flat, exists_name-lacks}
use Rattle.elim_laws.proofs.Taking.{rule_keeps, exists_name-out}
use Rattle.solve_laws.proofs.Spans.{IsFrom, Spans, all_lack, all_from_lacks, spans-formed, spans-shaped}

by_value : (ds vs : List (List Literal)) → vs ≡ clauses_of ds → AllByRecursion (All IsLiteral) ds → AllByRecursion (All IsShaped) vs
by_value ds vs is h = subst (AllByRecursion (All IsShaped)) (sym is) (clauses-shaped ds h)

by_recursion : (ds : List (List Literal)) → AllByRecursion (AllByRecursion IsLiteral) ds → AllByRecursion (All IsLiteral) ds
by_recursion ds h = kept-weaker (AllByRecursion IsLiteral) (All IsLiteral) (λ c k. All-from_recursion IsLiteral c k) ds h

literals : (c : List Literal) → All IsFormed c → AllByRecursion IsLiteral c
literals c f = recursion_from_All IsLiteral c (literals_of_clause c f)

formed : (c : List Literal) → All IsFormed c → AllByRecursion IsFormed c
formed c f = recursion_from_All IsFormed c f

-- what a rule leaves has the shape of clauses
rule-shaped : (x : ℕ) (c : List Literal) (e : Entry) → All IsFormed c → applies x c e ≡ true → AllByRecursion (All IsShaped) (rule x c e).value
rule-shaped x c (Equation i) f a = by_value _ _ (equation-value x i c) (by_recursion _ (equation-exact x i c (literals c f) a).literals)
rule-shaped x c (Apart i) f a = by_value _ _ (apart-value x i c) (by_recursion _ (apart-exact x i c (literals c f) a).literals)
rule-shaped x c (Merge i j) f a = by_value _ _ (merge-value x i j c) (by_recursion _ (merge-exact x i j c (formed c f) a).literals)
rule-shaped x c (Shift i) f a = by_value _ _ (shift-value x i c) (by_recursion _ (shift-exact x i c (formed c f) a).literals)
rule-shaped x c OneSided f a = by_value (one_sided_results x c) _ (one_sided-value x c) (recursion_from_All (All IsLiteral) (one_sided_results x c) (one_sided-proper x c (literals_of_clause c f)))
rule-shaped x c Exact f a = by_value (exact_results x c) _ (exact-value x c) (recursion_from_All (All IsLiteral) (exact_results x c) (exact-proper x c (literals_of_clause c f)))
rule-shaped x c Dark f a = by_value (dark_results x c) _ (dark-value x c) (recursion_from_All (All IsLiteral) (dark_results x c) (dark_results-proper x c (literals_of_clause c f)))

-- a clause of literals in form, with the shape of clauses
record IsFit (c : List Literal) : Type 0 where
  formed : All IsFormed c
  shaped : All IsShaped c

fit : (d : List (List Literal)) → AreFormed d → AllByRecursion (All IsShaped) d → AllByRecursion IsFit d
fit [] f s = tt
fit (c ∷ d) f s = (record { formed = f.0; shaped = s.0 }, fit d f.1 s.1)

rules_deep-shaped : (x n : ℕ) (c : List Literal) → IsFit c → AllByRecursion (All IsShaped) (rules_deep x n c).value
unfolding next just step
rules_deep-shaped x zero c h = (h.shaped, tt)
rules_deep-shaped x (suc n) c h = by (first_rule x c) refl (λ r k. rules_deep-shaped x n r k)
  where
    by : (o : Option Entry) → first_rule x c ≡ o → ((r : List Literal) → IsFit r → AllByRecursion (All IsShaped) (rules_deep x n r).value)
        → AllByRecursion (All IsShaped) (by_first (rules_deep x n) x c o).value
    by None is f = (h.shaped, tt)
    by (Some e) is f =
        let a = (first_is_rule x c e is).applies in
        let k = rule_keeps x c e h.formed a in
        subst (AllByRecursion (All IsShaped)) (sym (each-value (rules_deep x n) (rule x c e).value []))
        (all_flat IsFit (All IsShaped) (λ r. (rules_deep x n r).value) (rule x c e).value f
        (fit (rule x c e).value (recursion_from_All (All IsFormed) _ k.formed) (rule-shaped x c e h.formed a)))

taken_out-shaped : (x : ℕ) (c : List Literal) → IsFit c → AllByRecursion (All IsShaped) (taken_out x c).value
unfolding taken_out
taken_out-shaped x c h = rules_deep-shaped x (suc (measure x c)) c h

pub exists_name-shaped : (x : ℕ) (d : List (List Literal)) → AreFormed d → AllByRecursion (All IsShaped) d → AllByRecursion (All IsShaped) (exists_name x d).value
unfolding next just step
exists_name-shaped x d f s =
    tidied-kept (All IsShaped) _ (subst (AllByRecursion (All IsShaped)) (sym (each-value (taken_out x) d []))
    (all_flat IsFit (All IsShaped) (λ c. (taken_out x c).value) d (taken_out-shaped x) (fit d f s)))

-- ---- a name out of a disjunction of clauses whose names are from j on and up to it
pub exists_name-met : (j x : ℕ) (d : List (List Literal)) (e : List ℤ) → Spans j (suc x) d → (dnf_truth (exists_name x d).value e ≡ true) ↔ IsMet d x e
exists_name-met j x d e s = let o : IsOut x d (exists_name x d).value = exists_name-out x d (spans-formed (IsFrom j (suc x)) d s) in (o.back e, o.kept e)

pub free_lacks : (x : ℕ) (d : List (List Literal)) → AllByRecursion (λ c. list_any (has x) c ≡ false) d → AllByRecursion (Lacks x) d
free_lacks x d h = kept-weaker (λ c. list_any (has x) c ≡ false) (Lacks x) (λ c k. any-none (has x) c k) d h

pub exists_name-spans : (j x : ℕ) (d : List (List Literal)) → j ≤ x → Spans j (suc x) d → Spans j x (exists_name x d).value
exists_name-spans j x d le s =
    let f = spans-formed (IsFrom j (suc x)) d s in
    let o : IsOut x d (exists_name x d).value = exists_name-out x d f in
    let others : (y : ℕ) → y ≢ x → ¬ (IsFrom j (suc x) y) → AllByRecursion (Lacks y) (exists_name x d).value =
    (λ y n k. exists_name-lacks x y d n (all_lack (IsFrom j (suc x)) y d k s)) in
    all_from_lacks (IsFrom j x) (exists_name x d).value o.formed (exists_name-shaped x d f (spans-shaped (IsFrom j (suc x)) d s))
    (λ y. low y others (free_lacks x _ o.free) (cases_lt y j))
  where
    high : (y : ℕ) → ((z : ℕ) → z ≢ x → ¬ (IsFrom j (suc x) z) → AllByRecursion (Lacks z) (exists_name x d).value) → AllByRecursion (Lacks x) (exists_name x d).value
        → j ≤ y → (y < x) ⊎ (x ≤ y) → IsFrom j x y ⊎ AllByRecursion (Lacks y) (exists_name x d).value
    high y f g le (inl l) = inl (le, l)
    high y f g le (inr l) = inr (at (cases_lt x y))
      where
        at : (x < y) ⊎ (y ≤ x) → AllByRecursion (Lacks y) (exists_name x d).value
        at (inl more) = f y (λ e. absurd (omega (arith, e, more))) (λ k. absurd (omega (arith, k.1, more)))
        at (inr same) = subst (λ (z : ℕ). AllByRecursion (Lacks z) (exists_name x d).value) (let e : x ≡ y = omega (arith, l, same) in e) g

    low : (y : ℕ) → ((z : ℕ) → z ≢ x → ¬ (IsFrom j (suc x) z) → AllByRecursion (Lacks z) (exists_name x d).value) → AllByRecursion (Lacks x) (exists_name x d).value
        → (y < j) ⊎ (j ≤ y) → IsFrom j x y ⊎ AllByRecursion (Lacks y) (exists_name x d).value
    low y f g (inl l) = inr (f y (λ e. absurd (omega (arith, e, l, le))) (λ k. absurd (omega (arith, k.0, l))))
    low y f g (inr l) = high y f g l (cases_lt y x)
