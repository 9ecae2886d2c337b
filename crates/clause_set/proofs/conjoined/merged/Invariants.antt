use Rattle.std.proofs.Common.{◌+◌, ◌++◌, length}
use Rattle.clause_set.proofs.Merging.{Merging}
use Rattle.clause_set.proofs.conjoined.merged.Given as goal

abbrev pub invariant-loop-next : goal.invariant-loop-next
invariant-loop-next l = Merging (l.c ++ l.d) l.left l.right l.out

abbrev pub decreases-loop-next : goal.decreases-loop-next
decreases-loop-next l = length l.left + length l.right
