use Rattle.std.proofs.Common.{◌<◌, length, sym, subst, ◌∙◌}
use Rattle.base_budget.specs.declared.log.Entry.TheVariants.{Equation}
use Rattle.clause_set.specs.Clause.{IsClause}
use Rattle.clause_set.proofs.Formed.{clause-is_formed}
use Rattle.clause_set.specs.Rules.{rule}
use Rattle.elim_rule_laws.proofs.EquationExactness.{equation-keeps}
use Rattle.elim_rule_laws.proofs.EquationProgress.{equation-free, equation-nearer}
use Rattle.elim_rules.proofs.Calls.{got_same, rest_divisors, free_ok, met_ok, nearer_ok}
use Rattle.elim_rules.proofs.AtEquation.{equation_below, equation_coefficient, equation_refused, equation_work}
use Rattle.elim_rules.proofs.equation.equation_rule.Goals as goal

pub returns-in_err-step-clause-work : goal.returns-in_err-step-clause-work
returns-in_err-step-clause-work c = equation_refused c.args.x c.args.i c.args.c c.from_residual-in_err-step.result c.requires c.from_residual-in_err-step.ensures.1 (c.in_err-step.ensures _ c.in_ok-whole_charge.ensures)

pub remove-l-requires : goal.remove-l-requires
remove-l-requires c = subst (λ z. c.args.i < length z) (sym c.into_literals-rest.ensures.exact) (equation_below c.args.x c.args.i c.args.c c.requires)

pub by_literal-requires-clause-not_zero : goal.by_literal-requires-clause-not_zero
by_literal-requires-clause-not_zero c =
    equation_coefficient c.args.x c.args.i c.args.c c.remove-l.result (subst IsClause c.into_literals-rest.ensures.exact c.into_literals-rest.ensures.clause).literals c.requires
    (got_same c.args.i c.args.c _ c.remove-l.result c.into_literals-rest.ensures.exact c.remove-l.ensures.item)

pub by_literal-requires-clause-divisors : goal.by_literal-requires-clause-divisors
by_literal-requires-clause-divisors c =
    rest_divisors c.args.i c.args.c _ c.as_slice.result.now (subst IsClause c.into_literals-rest.ensures.exact c.into_literals-rest.ensures.clause).divisors c.into_literals-rest.ensures.exact
    (c.as_slice.ensures ∙ c.remove-l.ensures.rest)

pub returns-clause-work : goal.returns-clause-work
returns-clause-work c =
    equation_work c.args.x c.args.i c.args.c _ c.as_slice.result.now c.remove-l.result c.by_literal.result c.into_literals-rest.ensures.exact c.remove-l.ensures.item (c.as_slice.ensures ∙ c.remove-l.ensures.rest)
    (c.in_ok-step.ensures _ c.in_ok-whole_charge.ensures) c.by_literal.ensures

pub returns-clause-exact : goal.returns-clause-exact
returns-clause-exact c =
    met_ok c.args.x c.args.c (rule c.args.x c.args.c (Equation c.args.i)) c.by_literal.result (returns-clause-work c)
    (equation-keeps c.args.x c.args.i c.args.c (clause-is_formed c.args.c (subst IsClause c.into_literals-rest.ensures.exact c.into_literals-rest.ensures.clause)) c.requires).met

pub returns-clause-free : goal.returns-clause-free
returns-clause-free c = free_ok c.args.x (rule c.args.x c.args.c (Equation c.args.i)) c.by_literal.result (returns-clause-work c) (equation-free c.args.x c.args.i c.args.c c.requires)

pub returns-clause-nearer : goal.returns-clause-nearer
returns-clause-nearer c = nearer_ok c.args.x c.args.c (rule c.args.x c.args.c (Equation c.args.i)) c.by_literal.result (returns-clause-work c) (equation-nearer c.args.x c.args.i c.args.c c.requires)
