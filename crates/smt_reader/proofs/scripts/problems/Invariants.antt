use Rattle.std.proofs.Common.{length, map}
use Rattle.smt_lists.specs.Expressions.{expr}
use Rattle.smt_reader.specs.Commands.{acts_of}
use Rattle.smt_reader.specs.Forces.{force}
use Rattle.smt_reader.specs.Taking.{AreTaken}
use Rattle.smt_reader.proofs.scripts.problems.Given as goal

abbrev pub invariant-loop-list : goal.invariant-loop-list
invariant-loop-list l = AreTaken (force l.taken.forces) l.taken.checks (acts_of (map expr l.rest)) (acts_of (map expr l.lists))

abbrev pub decreases-loop-list : goal.decreases-loop-list
decreases-loop-list l = length l.rest
