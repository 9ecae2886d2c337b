use Rattle.std.proofs.Common.{◌≡◌, map}
use Rattle.backlist.specs.Walk.{IsWalk}
use Rattle.tree_branch.specs.Standing.{members_in}
use Rattle.tree_branch.proofs.branch.Branch.members.Given as goal

abbrev pub invariant-loop-i : goal.invariant-loop-i
invariant-loop-i l = (w : IsWalk l.self.list.present l.i l.at) × (map (λ m. m.now) l.members.items ≡ members_in w.passed)
