use Rattle.std.proofs.Common.{◌≡◌, ◌++◌, length, map}
use Rattle.smt_lists.specs.Expressions.{expr}
use Rattle.smt_reader.specs.Replies.{replies}
use Rattle.smt_reader.proofs.replies.replies.Given as goal

abbrev pub invariant-loop-list : goal.invariant-loop-list
invariant-loop-list l = l.found ++ replies (map expr l.rest) ≡ replies (map expr l.lists)

abbrev pub decreases-loop-list : goal.decreases-loop-list
decreases-loop-list l = length l.rest
