use Rattle.std.proofs.Common.{◌≡◌, drop}
use Rattle.solve_laws.specs.Nearest.{nearest, nearest_of}
use Rattle.parameter_solver.proofs.numbers.nearest.Given as goal

abbrev pub invariant-loop-i : goal.invariant-loop-i
invariant-loop-i l = nearest_of l.best (drop l.i l.vs) ≡ nearest l.vs
