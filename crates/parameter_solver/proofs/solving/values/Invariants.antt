use Rattle.std.proofs.Common.{[], ◌-◌, ◌<◌, ◌^◌}
use Rattle.base_budget.proofs.Following.{Going}
use Rattle.solve_laws.specs.Solutions.{values_at}
use Rattle.parameter_solver.specs.Logs.{in_log}
use Rattle.parameter_solver.specs.Names.{IsOfNames}
use Rattle.parameter_solver.proofs.solving.values.Given as goal

abbrev pub invariant-loop-j : goal.invariant-loop-j
invariant-loop-j l = record {
  work : Going in_log (values_at (l.names - l.j) l.j l.rest l.values) l.purse l.log.entries (values_at l.names 0 l.d []) l.fn.purse l.fn.log.entries;
  names : IsOfNames l.j l.names l.rest;
  budget : l.purse.budget < 2 ^ 32;
}
