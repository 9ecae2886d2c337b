use Rattle.std.proofs.Common.{subst}
use Rattle.base_budget.specs.declared.log.Entry.TheVariants.{Merge}
use Rattle.clause_set.specs.Clause.{IsClause}
use Rattle.clause_set.proofs.Formed.{clause-is_formed}
use Rattle.clause_set.specs.Rules.{rule}
use Rattle.elim_rule_laws.proofs.Applying.{merge_applies}
use Rattle.elim_rule_laws.proofs.EquationExactness.{merge-keeps}
use Rattle.elim_rule_laws.proofs.EquationProgress.{merge-nearer}
use Rattle.elim_rules.proofs.AtDivisibilities.{congruence_at, second_below, first_left, both_taken, two_normalized, merge_refused, merge_work}
use Rattle.elim_rules.proofs.Calls.{met_ok, nearer_ok}
use Rattle.elim_rules.proofs.merge.merge_rule.Goals as goal

pub returns-in_err-step-clause-work : goal.returns-in_err-step-clause-work
returns-in_err-step-clause-work c = merge_refused c.args.x c.args.i c.args.j c.args.c c.from_residual-in_err-step.result c.requires c.from_residual-in_err-step.ensures.1 (c.in_err-step.ensures _ c.in_ok-whole_charge.ensures)

pub remove-m-requires : goal.remove-m-requires
remove-m-requires c = second_below c.args.x c.args.i c.args.j c.args.c c.into_literals-rest.result c.requires c.into_literals-rest.ensures.exact

pub remove-l-requires : goal.remove-l-requires
remove-l-requires c = first_left c.args.x c.args.i c.args.j c.args.c _ _ c.requires c.into_literals-rest.ensures.exact c.remove-m.ensures.rest

pub merged-requires-clause-first : goal.merged-requires-clause-first
merged-requires-clause-first c =
    let both = both_taken c.args.x c.args.i c.args.j c.args.c _ _ _ c.remove-l.result c.remove-m.result c.requires c.into_literals-rest.ensures.exact c.remove-m.ensures.item c.remove-m.ensures.rest c.remove-l.ensures.item
    c.remove-l.ensures.rest in
    congruence_at c.args.x c.args.i c.args.c c.remove-l.result (subst IsClause c.into_literals-rest.ensures.exact c.into_literals-rest.ensures.clause)
    (merge_applies c.args.x c.args.i c.args.j c.args.c c.requires).first both.first

pub merged-requires-clause-second : goal.merged-requires-clause-second
merged-requires-clause-second c =
    let both = both_taken c.args.x c.args.i c.args.j c.args.c _ _ _ c.remove-l.result c.remove-m.result c.requires c.into_literals-rest.ensures.exact c.remove-m.ensures.item c.remove-m.ensures.rest c.remove-l.ensures.item
    c.remove-l.ensures.rest in
    congruence_at c.args.x c.args.j c.args.c c.remove-m.result (subst IsClause c.into_literals-rest.ensures.exact c.into_literals-rest.ensures.clause)
    (merge_applies c.args.x c.args.i c.args.j c.args.c c.requires).second both.second

pub merged-requires-clause-normalized : goal.merged-requires-clause-normalized
merged-requires-clause-normalized c = two_normalized c.args.i c.args.j c.into_literals-rest.result _ _ c.into_literals-rest.ensures.clause c.remove-m.ensures.rest c.remove-l.ensures.rest

pub returns-clause-work : goal.returns-clause-work
returns-clause-work c =
    let both = both_taken c.args.x c.args.i c.args.j c.args.c _ _ _ c.remove-l.result c.remove-m.result c.requires c.into_literals-rest.ensures.exact c.remove-m.ensures.item c.remove-m.ensures.rest c.remove-l.ensures.item
    c.remove-l.ensures.rest in
    merge_work c.args.x c.args.i c.args.j c.args.c _ c.remove-l.result c.remove-m.result c.merged.result c.requires both (c.in_ok-step.ensures _ c.in_ok-whole_charge.ensures) c.merged.ensures

pub returns-clause-exact : goal.returns-clause-exact
returns-clause-exact c =
    met_ok c.args.x c.args.c (rule c.args.x c.args.c (Merge c.args.i c.args.j)) c.merged.result (returns-clause-work c)
    (merge-keeps c.args.x c.args.i c.args.j c.args.c (clause-is_formed c.args.c (subst IsClause c.into_literals-rest.ensures.exact c.into_literals-rest.ensures.clause)) c.requires).met

pub returns-clause-nearer : goal.returns-clause-nearer
returns-clause-nearer c = λ none.
    nearer_ok c.args.x c.args.c (rule c.args.x c.args.c (Merge c.args.i c.args.j)) c.merged.result (returns-clause-work c) (merge-nearer c.args.x c.args.i c.args.j c.args.c none c.requires)
