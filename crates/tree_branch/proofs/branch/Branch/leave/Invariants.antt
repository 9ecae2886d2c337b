use Rattle.std.proofs.Common.{◌≡◌}
use Rattle.tree_branch.specs.Standing.{undone}
use Rattle.tree_branch.proofs.branch.Branch.leave.Given as goal

abbrev pub invariant-loop-i : goal.invariant-loop-i
invariant-loop-i l = l.self.list ≡ undone l.i l.fn.self.list
