use Rattle.std.proofs.Common.{[], drop}
use Rattle.base_budget.specs.Trace.{each}
use Rattle.clause_set.specs.Shadows.{splinters}
use Rattle.base_budget.proofs.Charging.{Left}
use Rattle.elim_rules.proofs.splinter.splinters.Given as goal

abbrev pub invariant-loop-low : goal.invariant-loop-low
invariant-loop-low l = Left (each (splinters l.x l.c l.a) (drop l.low-index l.lows) l.out) (each (splinters l.x l.c l.a) l.lows [])
