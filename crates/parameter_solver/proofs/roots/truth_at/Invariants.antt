use Rattle.parameter_solver.proofs.OneName.{TrueBefore}
use Rattle.parameter_solver.proofs.roots.truth_at.Given as goal

abbrev pub invariant-loop-l : goal.invariant-loop-l
invariant-loop-l l = TrueBefore l.j l.v l.ls l.l-index l.truth
