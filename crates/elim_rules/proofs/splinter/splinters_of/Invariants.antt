use Rattle.std.proofs.Common.{[], ◌-◌, ◌≤◌}
use Rattle.base_budget.specs.Trace.{each}
use Rattle.clause_set.specs.Divisibilities.{numbers_from}
use Rattle.clause_set.specs.Shadows.{splinter}
use Rattle.base_budget.proofs.Charging.{Left}
use Rattle.elim_rules.proofs.splinter.splinters_of.Given as goal

abbrev pub invariant-loop-i : goal.invariant-loop-i
invariant-loop-i l = Left (each (splinter l.c l.low) (numbers_from l.i (l.count - l.i)) l.out) (each (splinter l.c l.low) (numbers_from 0 l.count) []) × (l.i ≤ l.count)

abbrev pub decreases-loop-i : goal.decreases-loop-i
decreases-loop-i l = l.count - l.i
