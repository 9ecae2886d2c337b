use Rattle.std.proofs.Common.{◌≡◌, ◌+◌, ◌*◌, List}
use Rattle.tree_branch.specs.Standing.{premises_from}
use Rattle.proof_tree.specs.Proof.{Proof}
use Rattle.search.specs.Building.{built}
use Rattle.search.proofs.Growing.{Stepping}
use Rattle.search.proofs.walk.+build.Given as goal

abbrev pub invariant-build_all-loop-i : goal.invariant-build_all-loop-i
invariant-build_all-loop-i l = (l.branch ≡ l.fn.branch) × (xs : List Proof) × Stepping l.plan.keeps (built l.plan.limit l.left) l.i (premises_from l.fn.branch l.principal) xs l.children l.purse l.course l.fn.purse l.fn.course

abbrev pub decreases-build : goal.decreases-build
decreases-build l = 3 * l.left

abbrev pub decreases-grow : goal.decreases-grow
decreases-grow l = 3 * l.left + 2

abbrev pub decreases-build_all : goal.decreases-build_all
decreases-build_all l = 3 * l.left + 1
