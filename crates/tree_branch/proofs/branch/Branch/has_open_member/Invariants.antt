use Rattle.std.proofs.Common.{◌≡◌}
use Rattle.std.specs.List.{list_any}
use Rattle.backlist.specs.Walk.{IsWalk}
use Rattle.sequent.specs.Leaf.{is_open}
use Rattle.sequent.specs.Views.{members_of}
use Rattle.tree_branch.specs.Standing.{members_in}
use Rattle.tree_branch.proofs.branch.Branch.has_open_member.Given as goal

abbrev pub invariant-loop-i : goal.invariant-loop-i
invariant-loop-i l = (w : IsWalk l.self.list.present l.i l.at) × (l.found ≡ list_any (λ m. is_open m.formula) (members_of (members_in w.passed)))
