use Rattle.std.proofs.Common.{◌<◌, length, sym, subst, ◌∙◌}
use Rattle.base_budget.specs.declared.log.Entry.TheVariants.{Shift}
use Rattle.clause_set.specs.Clause.{IsClause}
use Rattle.clause_set.proofs.Formed.{clause-is_formed}
use Rattle.clause_set.specs.Rules.{rule}
use Rattle.elim_rule_laws.proofs.Applying.{shift_applies}
use Rattle.elim_rule_laws.proofs.EquationExactness.{shift-keeps}
use Rattle.elim_rule_laws.proofs.EquationProgress.{shift-nearer}
use Rattle.elim_rules.specs.Answers.{bezout_of}
use Rattle.elim_rules.proofs.Calls.{got_same, rest_divisors, met_ok, nearer_ok}
use Rattle.elim_rules.proofs.AtDivisibilities.{congruence_at, shift_below, shift_refused, shift_work}
use Rattle.elim_rules.proofs.shift.shift_rule.Goals as goal

pub returns-in_err-step-clause-work : goal.returns-in_err-step-clause-work
returns-in_err-step-clause-work c = shift_refused c.args.x c.args.i c.args.c c.from_residual-in_err-step.result c.requires c.from_residual-in_err-step.ensures.1 (c.in_err-step.ensures _ c.in_ok-whole_charge.ensures)

pub remove-l-requires : goal.remove-l-requires
remove-l-requires c = subst (λ z. c.args.i < length z) (sym c.into_literals-rest.ensures.exact) (shift_below c.args.x c.args.i c.args.c c.requires)

pub own_coefficients-z-requires : goal.own_coefficients-z-requires
own_coefficients-z-requires c =
    congruence_at c.args.x c.args.i c.args.c c.remove-l.result (subst IsClause c.into_literals-rest.ensures.exact c.into_literals-rest.ensures.clause) (shift_applies c.args.x c.args.i c.args.c c.requires).literal
    (got_same c.args.i c.args.c _ c.remove-l.result c.into_literals-rest.ensures.exact c.remove-l.ensures.item)

pub shift_by-requires-clause-divisors : goal.shift_by-requires-clause-divisors
shift_by-requires-clause-divisors c =
    rest_divisors c.args.i c.args.c _ c.as_slice.result.now (subst IsClause c.into_literals-rest.ensures.exact c.into_literals-rest.ensures.clause).divisors c.into_literals-rest.ensures.exact
    (c.as_slice.ensures ∙ c.remove-l.ensures.rest)

pub returns-clause-work : goal.returns-clause-work
returns-clause-work c =
    shift_work c.args.x c.args.i c.args.c _ c.as_slice.result.now c.remove-l.result (bezout_of c.own_coefficients-z.result) c.shift_by.result c.requires c.into_literals-rest.ensures.exact c.remove-l.ensures.item
    (c.as_slice.ensures ∙ c.remove-l.ensures.rest) c.own_coefficients-z.ensures.exact (c.in_ok-step.ensures _ c.in_ok-whole_charge.ensures) c.shift_by.ensures

pub returns-clause-exact : goal.returns-clause-exact
returns-clause-exact c =
    met_ok c.args.x c.args.c (rule c.args.x c.args.c (Shift c.args.i)) c.shift_by.result (returns-clause-work c)
    (shift-keeps c.args.x c.args.i c.args.c (clause-is_formed c.args.c (subst IsClause c.into_literals-rest.ensures.exact c.into_literals-rest.ensures.clause)) c.requires).met

pub returns-clause-nearer : goal.returns-clause-nearer
returns-clause-nearer c = nearer_ok c.args.x c.args.c (rule c.args.x c.args.c (Shift c.args.i)) c.shift_by.result (returns-clause-work c) (shift-nearer c.args.x c.args.i c.args.c c.requires)
