use Rattle.std.proofs.Common.{[], suc, ◌-◌, ◌≤◌}
use Rattle.base_budget.specs.Trace.{each}
use Rattle.base_budget.proofs.Charging.{Left}
use Rattle.clause_set.specs.Divisibilities.{numbers_from}
use Rattle.elim_rules.specs.Congruences.{remainder_beside}
use Rattle.elim_rules.proofs.apart.with_remainders.Given as goal

abbrev pub invariant-loop-r : goal.invariant-loop-r
invariant-loop-r l = Left (each (remainder_beside l.rest l.l) (numbers_from l.r (suc (l.count - l.r))) l.out) (each (remainder_beside l.rest l.l) (numbers_from 1 l.count) []) × (l.r ≤ l.count)

abbrev pub decreases-loop-r : goal.decreases-loop-r
decreases-loop-r l = l.count - l.r
