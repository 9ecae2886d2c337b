use Rattle.std.proofs.Common.{[], ◌+◌, ◌*◌, drop}
use Rattle.std.specs.Prelude.{All}
use Rattle.linear_term.specs.Range.{InRange}
use Rattle.clause_set.specs.Rules.{measure}
use Rattle.base_budget.specs.Trace.{at, each}
use Rattle.base_budget.specs.Work.{Remains}
use Rattle.solve_laws.specs.Candidates.{candidates}
use Rattle.parameter_solver.proofs.Parting.{above}
use Rattle.parameter_solver.proofs.steps.+splitting.Given as goal

abbrev pub decreases-candidates : goal.decreases-candidates
decreases-candidates l = 2 * measure l.j l.c.now + 1

abbrev pub decreases-all_candidates : goal.decreases-all_candidates
decreases-all_candidates l = 2 * above l.j l.cs.now

abbrev pub invariant-all_candidates-loop-c : goal.invariant-all_candidates-loop-c
invariant-all_candidates-loop-c l = record {
  work : Remains (each (candidates l.j) (drop l.c-index l.cs) l.out) (at l.purse []) (each (candidates l.j) l.cs []) (at l.fn.purse []);
  range : All InRange l.out;
}
