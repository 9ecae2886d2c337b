use Rattle.std.proofs.Common.{◌-◌, length}
use Rattle.cdcl_solver.proofs.shrinking.+is_false_below.Given as goal

abbrev pub decreases-is_false_below : goal.decreases-is_false_below
decreases-is_false_below l = length l.values.now - l.from
