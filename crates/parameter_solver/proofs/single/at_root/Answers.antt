use Rattle.std.proofs.Common.{rules, ap, sym, subst, ◌∙◌, ◌<◌, length, neg_ℤ, to_z-of_z}
use Rattle.std.specs.Prelude.{remove}
use mir.Syntax.{w128}
use mir.Val.{SFits}
use Rattle.base_budget.proofs.Charging.{work_memory}
use Rattle.linear_term.specs.Linear.{Linear}
use Rattle.elim_rules.proofs.Calls.{rest_divisors}
use Rattle.parameter_solver.proofs.OneName.{equation_within, root_at_done, rest_alone}
use Rattle.parameter_solver.proofs.single.at_root.Goals as goal

pub get-requires : goal.get-requires
get-requires c = equation_within c.args.j c.args.i c.args.c.now c.requires.equation

pub returns-in_err-rest-clause-work : goal.returns-in_err-rest-clause-work
returns-in_err-rest-clause-work c = work_memory c.from_residual.result c.from_residual.ensures.1

pub remove-requires : goal.remove-requires
remove-requires c = subst (λ z. c.args.i < length z) (sym (c.in_ok-rest.ensures ∙ c.literals.ensures)) (equation_within c.args.j c.args.i c.args.c.now c.requires.equation)

pub root-requires-clause-alone : goal.root-requires-clause-alone
root-requires-clause-alone c = rest_alone c.args.j c.args.i c.args.c.now c.in_ok-rest.rest c.as_slice.result.now c.requires.alone (c.in_ok-rest.ensures ∙ c.literals.ensures) (c.as_slice.ensures ∙ c.remove.ensures.rest)

pub root-requires-clause-divisors : goal.root-requires-clause-divisors
root-requires-clause-divisors c = rest_divisors c.args.i c.args.c.now c.in_ok-rest.rest c.as_slice.result.now c.know_clause.ensures.divisors (c.in_ok-rest.ensures ∙ c.literals.ensures) (c.as_slice.ensures ∙ c.remove.ensures.rest)

pub returns-clause-work : goal.returns-clause-work
returns-clause-work c =
    let v : SFits w128 c.opposite-v.result = search rules in
    let k : SFits w128 c.constant.result = search rules in
    root_at_done c.args.j c.args.i c.args.c.now c.as_slice.result.now c.get.result.now c.opposite-v.result c.root.result c.get.ensures
    (c.as_slice.ensures ∙ c.remove.ensures.rest ∙ ap (λ z. remove z c.args.i) (c.in_ok-rest.ensures ∙ c.literals.ensures))
    (simp to_z-of_z at c.opposite-v.ensures.exact ∙ ap neg_ℤ (c.constant.ensures.exact ∙ ap (λ (t : Linear). t.constant) c.term.ensures)) (simp to_z-of_z at c.root.ensures.work)
