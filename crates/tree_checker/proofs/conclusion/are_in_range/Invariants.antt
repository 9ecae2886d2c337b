use Rattle.std.proofs.Common.{◌≡◌, length}
use Rattle.std.specs.List.{list_all}
use Rattle.linear_term.specs.Range.{is_in_range}
use Rattle.tree_checker.proofs.conclusion.are_in_range.Given as goal

abbrev pub invariant-loop-v : goal.invariant-loop-v
invariant-loop-v l = list_all is_in_range l.left ≡ list_all is_in_range l.fn.vs

abbrev pub decreases-loop-v : goal.decreases-loop-v
decreases-loop-v l = length l.left
