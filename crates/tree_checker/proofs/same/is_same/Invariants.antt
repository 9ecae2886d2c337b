use Rattle.std.proofs.Common.{◌≡◌, length}
use Rattle.proof_tree.specs.Walk.{is_same}
use Rattle.tree_checker.proofs.same.is_same.Given as goal

abbrev pub invariant-loop-x : goal.invariant-loop-x
invariant-loop-x l = is_same l.xs l.ys ≡ is_same l.fn.made l.fn.given

abbrev pub decreases-loop-x : goal.decreases-loop-x
decreases-loop-x l = length l.xs
