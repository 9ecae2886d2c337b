use Rattle.std.proofs.Common.{length}
use Rattle.clause_set.proofs.Thinning.{Thinning}
use Rattle.clause_set.proofs.covering.thinned.Given as goal

abbrev pub invariant-loop-c : goal.invariant-loop-c
invariant-loop-c l = Thinning l.fn.cs l.cs l.left

abbrev pub decreases-loop-c : goal.decreases-loop-c
decreases-loop-c l = length l.cs
