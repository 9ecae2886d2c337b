use Rattle.std.proofs.Common.{[], drop}
use Rattle.base_budget.specs.Trace.{each}
use Rattle.elim_rules.specs.Shadows.{row_of}
use Rattle.base_budget.proofs.Charging.{Left}
use Rattle.elim_rules.proofs.shadow.shadows.Given as goal

abbrev pub invariant-loop-low : goal.invariant-loop-low
invariant-loop-low l = Left (each (row_of l.kind l.x l.ups) (drop l.low-index l.lows) l.out) (each (row_of l.kind l.x l.ups) l.lows [])
