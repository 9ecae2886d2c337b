use Rattle.std.proofs.Common.{◌≡◌, drop}
use Rattle.solve_laws.specs.Candidates.{class_of}
use Rattle.parameter_solver.proofs.single.bounded.Given as goal

abbrev pub invariant-loop-l : goal.invariant-loop-l
invariant-loop-l l = class_of l.j (drop l.l-index l.l-items) ≡ class_of l.j l.l-items
