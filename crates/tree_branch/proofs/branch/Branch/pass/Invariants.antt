use Rattle.std.proofs.Common.{◌≡◌, ◌-◌, length}
use Rattle.backlist.specs.Links.{first_place}
use Rattle.tree_branch.specs.Passed.{IsPassed}
use Rattle.tree_branch.proofs.branch.Branch.pass.Given as goal

abbrev pub invariant-loop-at : goal.invariant-loop-at
invariant-loop-at l = (w : IsPassed l.limit l.self l.now) × (l.at ≡ first_place w.rest)

abbrev pub decreases-loop-at : goal.decreases-loop-at
decreases-loop-at l = length l.self.list.present - l.now.count
