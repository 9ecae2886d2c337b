-- Calls of rules: the literals that they take, and what the laws say of their answers.
use Rattle.std.proofs.Common.{◌≡◌, ◌<◌, ℕ, ℤ, false, List, [], ◌∷◌, Some, Result, Ok, Err, sym, ◌∙◌, ap, subst}
use Rattle.std.specs.Prelude.{All, IfOk, remove, slice_get, ◌↔◌}
use Rattle.std.specs.List.{list_any}
use Rattle.std.proofs.lemmas.List.Elements.{recursion_from_All, All-from_recursion}
use Rattle.base_budget.specs.Trace.{Funds, Traced}
use Rattle.base_budget.specs.declared.fault.StepFault.{StepFault}
use Rattle.base_budget.specs.Work.{Charged}
use Rattle.base_budget.proofs.Charging.{charged_value}
use Rattle.clause_set.specs.declared.literal.Literal.{Literal}
use Rattle.clause_set.specs.Literals.{HasDivisor}
use Rattle.clause_set.specs.Met.{IsMet}
use Rattle.clause_set.specs.Names.{has}
use Rattle.clause_set.specs.Rules.{measure}
use Rattle.elim_rule_laws.proofs.EquationLists.{kept-removed}

pub rest_divisors : (i : ℕ) (c ls rest : List Literal) → All HasDivisor c → ls ≡ c → rest ≡ remove ls i → All HasDivisor rest
rest_divisors i c ls rest h same is =
    subst (All HasDivisor) (sym (is ∙ ap (λ z. remove z i) same)) (All-from_recursion HasDivisor (remove c i) (kept-removed HasDivisor c i (recursion_from_All HasDivisor c h)))

-- what stands in the literals of the clause stands in the clause
pub got_same : (i : ℕ) (c ls : List Literal) (l : Literal) → ls ≡ c → slice_get ls i ≡ Some l → slice_get c i ≡ Some l
got_same i c ls l same is = ap (λ z. slice_get z i) (sym same) ∙ is

pub met_by : (x : ℕ) (c : List Literal) (ds es : List (List Literal)) → ds ≡ es → ((e : List ℤ) → IsMet (c ∷ []) x e ↔ IsMet es x e) → (e : List ℤ) → IsMet (c ∷ []) x e ↔ IsMet ds x e
met_by x c ds es is law e = subst (λ z. IsMet (c ∷ []) x e ↔ IsMet z x e) (sym is) (law e)

pub free_by : (x : ℕ) (ds es : List (List Literal)) → ds ≡ es → All (λ r. list_any (has x) r ≡ false) es → All (λ r. list_any (has x) r ≡ false) ds
free_by x ds es is law = subst (All (λ r. list_any (has x) r ≡ false)) (sym is) law

pub nearer_by : (x : ℕ) (c : List Literal) (ds es : List (List Literal)) → ds ≡ es → All (λ r. measure x r < measure x c) es → All (λ r. measure x r < measure x c) ds
nearer_by x c ds es is law = subst (All (λ r. measure x r < measure x c)) (sym is) law

pub met_ok : (x : ℕ) (c : List Literal) (work : Traced (List (List Literal))) (r : Result (List (List Literal)) StepFault) {old new : Funds} → Charged work old r new
    → ((e : List ℤ) → IsMet (c ∷ []) x e ↔ IsMet work.value x e) → IfOk r (λ ds. (e : List ℤ) → IsMet (c ∷ []) x e ↔ IsMet ds x e)
met_ok x c work (Ok ds) h law = met_by x c ds work.value (charged_value h) law
met_ok x c work (Err e) h law = tt

pub nearer_ok : (x : ℕ) (c : List Literal) (work : Traced (List (List Literal))) (r : Result (List (List Literal)) StepFault) {old new : Funds} → Charged work old r new
    → All (λ d. measure x d < measure x c) work.value → IfOk r (λ ds. All (λ d. measure x d < measure x c) ds)
nearer_ok x c work (Ok ds) h law = nearer_by x c ds work.value (charged_value h) law
nearer_ok x c work (Err e) h law = tt

pub free_ok : (x : ℕ) (work : Traced (List (List Literal))) (r : Result (List (List Literal)) StepFault) {old new : Funds} → Charged work old r new
    → All (λ d. list_any (has x) d ≡ false) work.value → IfOk r (λ ds. All (λ d. list_any (has x) d ≡ false) ds)
free_ok x work (Ok ds) h law = free_by x ds work.value (charged_value h) law
free_ok x work (Err e) h law = tt
