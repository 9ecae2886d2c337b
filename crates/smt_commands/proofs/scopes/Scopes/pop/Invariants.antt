use Rattle.std.proofs.Common.{◌≡◌}
use Rattle.smt_commands.specs.Levels.{popped}
use Rattle.smt_commands.proofs.scopes.Scopes.pop.Given as goal

abbrev pub invariant-loop-left : goal.invariant-loop-left
invariant-loop-left l = popped l.left l.scopes ≡ popped l.count l.initial.scopes

abbrev pub decreases-loop-left : goal.decreases-loop-left
decreases-loop-left l = l.left
