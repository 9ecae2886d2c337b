use Rattle.std.proofs.Common.{length}
use Rattle.linear_term.specs.Range.{InRange}
use Rattle.base_budget.proofs.Charging.{Left}
use Rattle.model_trees.specs.Rows.{evaluated, summed}
use Rattle.countermodel.proofs.evaluating.evaluated.Given as goal

abbrev pub invariant-loop-pair : goal.invariant-loop-pair
invariant-loop-pair l = InRange l.sum × Left (summed l.e l.rest l.sum) (evaluated l.e l.t)

abbrev pub decreases-loop-pair : goal.decreases-loop-pair
decreases-loop-pair l = length l.rest
