use Rattle.std.proofs.Common.{◌≡◌}
use Rattle.smt_commands.specs.Levels.{pushed}
use Rattle.smt_commands.proofs.scopes.Scopes.push.Given as goal

abbrev pub invariant-loop-left : goal.invariant-loop-left
invariant-loop-left l = pushed l.left l.scopes ≡ pushed l.count l.initial.scopes

abbrev pub decreases-loop-left : goal.decreases-loop-left
decreases-loop-left l = l.left
