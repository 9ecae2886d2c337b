use Rattle.std.specs.Prelude.{All}
use Rattle.clause_set.specs.Literals.{HasDivisor}
use Rattle.test_timing.proofs.kernels.joints.Given as goal

abbrev pub invariant-loop-i : goal.invariant-loop-i
invariant-loop-i l = All HasDivisor l.out
