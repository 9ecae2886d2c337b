use Rattle.std.proofs.Common.{length}
use Rattle.tree_branch.proofs.Undoing.{Pushing}
use Rattle.tree_branch.proofs.entering.push_all.Given as goal

abbrev pub invariant-loop-m : goal.invariant-loop-m
invariant-loop-m l = Pushing l.fn.list l.list l.rest l.fn.members

abbrev pub decreases-loop-m : goal.decreases-loop-m
decreases-loop-m l = length l.rest
