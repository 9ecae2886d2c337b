use Rattle.backlist.specs.Walk.{IsWalk}
use Rattle.tree_branch.proofs.branch.Branch.place_of.Given as goal

abbrev pub invariant-loop-i : goal.invariant-loop-i
invariant-loop-i l = IsWalk l.self.list.present l.i l.at
