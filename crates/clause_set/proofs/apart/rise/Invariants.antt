use Rattle.std.proofs.Common.{length}
use Rattle.std.specs.List.Sorted.{IsStrictlySortedBy}
use Rattle.clause_set.specs.Apart.{form_cmp}
use Rattle.clause_set.proofs.apart.rise.Given as goal

abbrev pub invariant-loop-l : goal.invariant-loop-l
invariant-loop-l l = IsStrictlySortedBy form_cmp l.left → IsStrictlySortedBy form_cmp l.fn.ls

abbrev pub decreases-loop-l : goal.decreases-loop-l
decreases-loop-l l = length l.left
