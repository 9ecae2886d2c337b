use Rattle.std.proofs.Common.{◌≡◌, ◌++◌, length}
use Rattle.std.specs.Prelude.{reverse}
use Rattle.tree_branch.proofs.entering.turned_round.Given as goal

abbrev pub invariant-loop-m : goal.invariant-loop-m
invariant-loop-m l = l.out ++ reverse l.left ≡ reverse l.fn.members

abbrev pub decreases-loop-m : goal.decreases-loop-m
decreases-loop-m l = length l.left
