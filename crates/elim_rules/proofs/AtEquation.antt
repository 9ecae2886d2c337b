-- The rule of an equation at its place in the clause.
use Rattle.std.proofs.Common.{◌≡◌, ◌≢◌, ◌<◌, ◌+◌, ℕ, pos, Ok, true, List, Some, length, Result, Err, IsErrAnd, sym, ◌∙◌, ap, subst}
use Rattle.std.specs.Prelude.{All, remove, slice_get}
use Rattle.std.proofs.lemmas.Option.{slice_get_within}
use Rattle.std.proofs.lemmas.List.Elements.{recursion_from_All}
use Rattle.base_budget.specs.declared.fault.StepFault.{StepFault}
use Rattle.base_budget.specs.declared.log.Entry.TheVariants.{Equation}
use Rattle.base_budget.specs.Trace.{Funds, pay}
use Rattle.base_budget.specs.Work.{Charged, Worked}
use Rattle.base_budget.proofs.Charging.{then_ok, then_err, free}
use Rattle.clause_set.specs.declared.literal.Literal.{Literal}
use Rattle.clause_set.specs.declared.literal.Literal.TheVariants.{Eq}
use Rattle.clause_set.specs.Literals.{IsLiteral}
use Rattle.clause_set.specs.Names.{area, coefficient}
use Rattle.clause_set.specs.Equations.{by_equation, equation_at, equation}
use Rattle.clause_set.specs.Rules.{applies, rule}
use Rattle.elim_rule_laws.proofs.Applying.{equation_applies, mentioned-not_zero}
use Rattle.elim_rule_laws.proofs.EquationLists.{kept-got}
use Rattle.elim_rules.specs.Solutions.{solved_beside}
use Rattle.elim_rules.proofs.Calls.{got_same}

pub equation_below : (x i : ℕ) (c : List Literal) → applies x c (Equation i) ≡ true → i < length c
equation_below x i c h = let e = equation_applies x i c h in slice_get_within c i (Eq e.term) e.stands

pub equation_coefficient : (x i : ℕ) (c : List Literal) (l : Literal) → All IsLiteral c → applies x c (Equation i) ≡ true → slice_get c i ≡ Some l → coefficient x l ≢ pos 0
equation_coefficient x i c l literals h is =
    let e = equation_applies x i c h in
    let same : Eq e.term ≡ l = let both : Some (Eq e.term) ≡ Some l = sym e.stands ∙ is in cc in
    let reduced = (kept-got IsLiteral c i (Eq e.term) e.stands (recursion_from_All IsLiteral c literals)).term in
    subst (λ k. coefficient x k ≢ pos 0) same (mentioned-not_zero e.term x reduced e.mentioned)

pub equation_work : (x i : ℕ) (c ls rest : List Literal) (l : Literal) {old paid : Funds} {v : Unit {0}} (r : Result (List (List Literal)) StepFault) → ls ≡ c → slice_get ls i ≡ Some l → rest ≡ remove ls i
    → Charged (pay (1 + area (length c) c)) old (Ok v) paid → Worked (solved_beside x rest l) r → Charged (rule x c (Equation i)) old r paid
unfolding rule equation
equation_work x i c ls rest l {old} {paid} r same is_l is first w =
    let done : Charged (by_equation x c rest l) old r paid = then_ok _ _ first (free r w) in
    subst (λ o. Charged (equation_at x i c o) old r paid) (sym (got_same i c ls l same is_l)) (subst (λ z. Charged (by_equation x c z l) old r paid) (is ∙ ap (λ z. remove z i) same) done)

pub equation_refused : (x i : ℕ) (c : List Literal) {old paid : Funds} {e : StepFault} (r : Result (List (List Literal)) StepFault) → applies x c (Equation i) ≡ true → IsErrAnd r (λ z. z ≡ e)
    → Charged (pay (1 + area (length c) c)) old (Err e) paid → Charged (rule x c (Equation i)) old r paid
unfolding rule equation
equation_refused x i c {old} {paid} r h fails w = subst (λ o. Charged (equation_at x i c o) old r paid) (sym (equation_applies x i c h).stands) (then_err _ _ r fails w)
