use Rattle.std.proofs.Common.{length}
use Rattle.clause_set.proofs.Thinning.{Settling}
use Rattle.clause_set.proofs.covering.settled.Given as goal

abbrev pub invariant-loop-c : goal.invariant-loop-c
invariant-loop-c l = Settling l.fn.cs l.cs l.kept

abbrev pub decreases-loop-c : goal.decreases-loop-c
decreases-loop-c l = length l.cs
