use Rattle.std.proofs.Common.{◌≡◌, map, length, false}
use Rattle.std.specs.List.{flat_map}
use Rattle.smt_lists.specs.Expressions.{expr}
use Rattle.smt_commands.specs.Faults.{sort_faults}
use Rattle.smt_commands.specs.Least.{least_from}
use Rattle.smt_commands.proofs.declaration.with_sort_faults.Given as goal

abbrev pub invariant-loop-sort : goal.invariant-loop-sort
invariant-loop-sort l = least_from l.found (flat_map (sort_faults false) (map expr l.rest)) ≡ least_from l.initial.found (flat_map (sort_faults false) (map expr l.sorts))

abbrev pub decreases-loop-sort : goal.decreases-loop-sort
decreases-loop-sort l = length l.rest
