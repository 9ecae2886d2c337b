use Rattle.std.proofs.Common.{take}
use Rattle.clause_checker.proofs.Lefts.{LeftSoFar}
use Rattle.clause_checker.proofs.resolving.left_of.Given as goal

abbrev pub invariant-loop-l : goal.invariant-loop-l
invariant-loop-l l = LeftSoFar l.marks l.left (take l.l-index l.clause)
