use Rattle.std.proofs.Common.{take}
use Rattle.clause_checker.proofs.Lefts.{MarkedSoFar}
use Rattle.clause_checker.proofs.resolving.mark_all.Given as goal

abbrev pub invariant-loop-l : goal.invariant-loop-l
invariant-loop-l l = MarkedSoFar l.marks (take l.l-index l.clause)
