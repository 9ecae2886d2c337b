use Rattle.std.proofs.Common.{◌<◌, length, sym, subst}
use Rattle.base_budget.specs.declared.log.Entry.TheVariants.{Apart}
use Rattle.clause_set.proofs.Formed.{clause-is_formed}
use Rattle.clause_set.specs.Rules.{rule}
use Rattle.elim_rule_laws.proofs.EquationExactness.{apart-keeps}
use Rattle.elim_rule_laws.proofs.EquationProgress.{apart-nearer}
use Rattle.elim_rules.proofs.Calls.{got_same, met_ok, nearer_ok}
use Rattle.elim_rules.proofs.Remainders.{apart_below, apart_divisor, apart_refused, apart_done, apart_normalized}
use Rattle.elim_rules.proofs.apart.apart_rule.Goals as goal

pub get-requires : goal.get-requires
get-requires c = apart_below c.args.x c.args.i c.args.c c.requires

pub remainder_count-count-requires : goal.remainder_count-count-requires
remainder_count-count-requires c = apart_divisor c.args.x c.args.i c.args.c c.get.result.now c.know_clause.ensures.divisors c.requires c.get.ensures

pub returns-in_err-step-clause-work : goal.returns-in_err-step-clause-work
returns-in_err-step-clause-work c =
    apart_refused c.args.x c.args.i c.args.c c.get.result.now c.remainder_count-count.result c.from_residual-in_err-step.result c.requires c.get.ensures c.remainder_count-count.ensures.exact
    c.from_residual-in_err-step.ensures.1 (c.in_err-step.ensures _ c.in_ok-charge.ensures)

pub remove-l-requires : goal.remove-l-requires
remove-l-requires c = subst (λ z. c.args.i < length z) (sym c.into_literals-rest.ensures.exact) (apart_below c.args.x c.args.i c.args.c c.requires)

pub with_remainders-requires-clause-divisor : goal.with_remainders-requires-clause-divisor
with_remainders-requires-clause-divisor c =
    apart_divisor c.args.x c.args.i c.args.c c.remove-l.result c.know_clause.ensures.divisors c.requires (got_same c.args.i c.args.c _ c.remove-l.result c.into_literals-rest.ensures.exact c.remove-l.ensures.item)

pub with_remainders-requires-clause-normalized : goal.with_remainders-requires-clause-normalized
with_remainders-requires-clause-normalized c = apart_normalized c.args.i _ _ c.into_literals-rest.ensures.clause c.remove-l.ensures.rest

pub returns-clause-work : goal.returns-clause-work
returns-clause-work c =
    apart_done c.args.x c.args.i c.args.c _ _ c.get.result.now c.remove-l.result c.remainder_count-count.result c.with_remainders.result c.requires c.get.ensures c.remainder_count-count.ensures.exact
    c.into_literals-rest.ensures.exact c.remove-l.ensures.item c.remove-l.ensures.rest (c.in_ok-step.ensures _ c.in_ok-charge.ensures) c.with_remainders.ensures

pub returns-clause-exact : goal.returns-clause-exact
returns-clause-exact c =
    met_ok c.args.x c.args.c (rule c.args.x c.args.c (Apart c.args.i)) c.with_remainders.result (returns-clause-work c)
    (apart-keeps c.args.x c.args.i c.args.c (clause-is_formed c.args.c c.know_clause.ensures) c.requires).met

pub returns-clause-nearer : goal.returns-clause-nearer
returns-clause-nearer c = λ none.
    nearer_ok c.args.x c.args.c (rule c.args.x c.args.c (Apart c.args.i)) c.with_remainders.result (returns-clause-work c) (apart-nearer c.args.x c.args.i c.args.c none c.requires)
