use Rattle.std.proofs.Common.{◌<◌, ◌≤◌, ◌^◌}
use Rattle.base_budget.specs.Trace.{at}
use Rattle.base_budget.specs.Work.{Remains, marks_of}
use Rattle.solve_laws.specs.Solutions.{names_from}
use Rattle.parameter_solver.proofs.solving.names_from.Given as goal

abbrev pub invariant-loop-rest : goal.invariant-loop-rest
invariant-loop-rest l = record {
  work : Remains (names_from l.rest l.j l.left) (at l.purse (marks_of l.log)) (names_from l.k l.j l.d) (at l.fn.purse (marks_of l.fn.log));
  fewer : l.rest ≤ l.k;
  budget : l.purse.budget < 2 ^ 32;
}

abbrev pub decreases-loop-rest : goal.decreases-loop-rest
decreases-loop-rest l = l.rest
