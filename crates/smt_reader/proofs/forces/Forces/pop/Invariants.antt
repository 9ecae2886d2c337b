use Rattle.std.proofs.Common.{◌≡◌}
use Rattle.smt_commands.specs.Levels.{popped}
use Rattle.smt_reader.specs.Forces.{force}
use Rattle.smt_reader.proofs.forces.Forces.pop.Given as goal

abbrev pub invariant-loop-left : goal.invariant-loop-left
invariant-loop-left l = popped l.left (force l.forces) ≡ popped l.count (force l.initial.forces)

abbrev pub decreases-loop-left : goal.decreases-loop-left
decreases-loop-left l = l.left
