use Rattle.std.proofs.Common.{length, map}
use Rattle.smt_reader.specs.Effects.{command_is}
use Rattle.smt_reader.specs.Taking.{IsReplayed}
use Rattle.smt_reader.proofs.following.follow_all.Given as goal

abbrev pub invariant-loop-effect : goal.invariant-loop-effect
invariant-loop-effect l = IsReplayed l.reading (map command_is l.rest) (map command_is l.effects)

abbrev pub decreases-loop-effect : goal.decreases-loop-effect
decreases-loop-effect l = length l.rest
