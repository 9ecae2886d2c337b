use Rattle.std.proofs.Common.{[], drop}
use Rattle.std.specs.Prelude.{All}
use Rattle.linear_term.specs.Range.{InRange}
use Rattle.base_budget.specs.Trace.{at, each}
use Rattle.base_budget.specs.Work.{Remains}
use Rattle.solve_laws.specs.Candidates.{charged_candidates}
use Rattle.parameter_solver.proofs.steps.chosen.Given as goal

abbrev pub invariant-loop-c : goal.invariant-loop-c
invariant-loop-c l = record {
  work : Remains (each (charged_candidates l.j) (drop l.c-index l.cs) l.vs) (at l.purse []) (each (charged_candidates l.j) l.cs []) (at l.fn.purse []);
  range : All InRange l.vs;
}
