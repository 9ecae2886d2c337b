use Rattle.std.proofs.Common.{[], ◌+◌, ◌*◌, ◌^◌, ◌<◌, drop}
use Rattle.clause_set.specs.Dnfs.{top}
use Rattle.elim_laws.specs.Whole.{all_of, any_of, eliminating}
use Rattle.formula.specs.Sizes.{depth, depths}
use Rattle.formula.specs.Tree.{form, forms_of}
use Rattle.base_budget.specs.Trace.{at}
use Rattle.base_budget.specs.Work.{Remains, marks_of}
use Rattle.quant_elim.proofs.wholes.+elimination.Given as goal

abbrev pub decreases-eliminate_form : goal.decreases-eliminate_form
decreases-eliminate_form l = 2 * depth (form l.f.now)

abbrev pub decreases-conjunction_of : goal.decreases-conjunction_of
decreases-conjunction_of l = 2 * depths (forms_of l.members.now) + 1

abbrev pub decreases-disjunction_of : goal.decreases-disjunction_of
decreases-disjunction_of l = 2 * depths (forms_of l.members.now) + 1

abbrev pub decreases-some_value : goal.decreases-some_value
decreases-some_value l = 2 * depth (form l.body.now) + 1

abbrev pub decreases-every_value : goal.decreases-every_value
decreases-every_value l = 2 * depth (form l.body.now) + 1

abbrev pub invariant-conjunction_of-loop-f : goal.invariant-conjunction_of-loop-f
invariant-conjunction_of-loop-f l = record {
  work : Remains (all_of (eliminating l.names) (forms_of (drop l.f-index l.members)) l.all) (at l.purse (marks_of l.log)) (all_of (eliminating l.names) (forms_of l.members) top) (at l.fn.purse (marks_of l.fn.log));
  budget : l.purse.budget < 2 ^ 32;
}

abbrev pub invariant-disjunction_of-loop-f : goal.invariant-disjunction_of-loop-f
invariant-disjunction_of-loop-f l = record {
  work : Remains (any_of (eliminating l.names) (forms_of (drop l.f-index l.members)) l.any) (at l.purse (marks_of l.log)) (any_of (eliminating l.names) (forms_of l.members) []) (at l.fn.purse (marks_of l.fn.log));
  budget : l.purse.budget < 2 ^ 32;
}
