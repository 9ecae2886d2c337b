use Rattle.std.proofs.Common.{◌≡◌, map, length}
use Rattle.std.specs.List.{flat_map}
use Rattle.smt_lists.specs.Expressions.{expr}
use Rattle.smt_commands.specs.Faults.{argument_faults}
use Rattle.smt_commands.specs.Least.{least_from}
use Rattle.smt_commands.proofs.declaration.with_argument_faults.Given as goal

abbrev pub invariant-loop-argument : goal.invariant-loop-argument
invariant-loop-argument l = least_from l.found (flat_map (argument_faults) (map expr l.rest)) ≡ least_from l.initial.found (flat_map (argument_faults) (map expr l.arguments))

abbrev pub decreases-loop-argument : goal.decreases-loop-argument
decreases-loop-argument l = length l.rest
