use Rattle.std.proofs.Common.{[], drop}
use Rattle.base_budget.specs.Trace.{each}
use Rattle.base_budget.proofs.Charging.{Left}
use Rattle.model_trees.specs.Rows.{one_value}
use Rattle.countermodel.proofs.evaluating.all_evaluated.Given as goal

abbrev pub invariant-loop-t : goal.invariant-loop-t
invariant-loop-t l = Left (each (one_value l.e) (drop l.t-index l.ts) l.out) (each (one_value l.e) l.ts [])
