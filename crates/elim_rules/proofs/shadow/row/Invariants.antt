use Rattle.std.proofs.Common.{drop}
use Rattle.base_budget.specs.Trace.{each}
use Rattle.elim_rules.specs.Shadows.{pair_of, row_of}
use Rattle.base_budget.proofs.Charging.{Left}
use Rattle.elim_rules.proofs.shadow.row.Given as goal

abbrev pub invariant-loop-up : goal.invariant-loop-up
invariant-loop-up l = Left (each (pair_of l.kind l.x l.low) (drop l.up-index l.ups) l.out) (row_of l.kind l.x l.ups l.low)
