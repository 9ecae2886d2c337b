use Rattle.std.proofs.Common.{[], ◌+◌, ◌*◌, ◌^◌, ◌<◌, ◌≤◌, length}
use Rattle.std.specs.Prelude.{reverse}
use Rattle.elim_laws.specs.Elimination.{taken_out}
use Rattle.clause_set.specs.Rules.{measure}
use Rattle.base_budget.specs.Trace.{at, each}
use Rattle.base_budget.specs.Work.{Remains, marks_of}
use Rattle.quant_elim.specs.First.{farthest}
use Rattle.quant_elim.proofs.taking.+taking.Given as goal

abbrev pub decreases-take_out : goal.decreases-take_out
decreases-take_out l = 2 * measure l.x l.c

abbrev pub decreases-take_out_all : goal.decreases-take_out_all
decreases-take_out_all l = 2 * farthest l.x l.cs + 1

abbrev pub invariant-take_out_all-loop-c : goal.invariant-take_out_all-loop-c
invariant-take_out_all-loop-c l = record {
  work : Remains (each (taken_out l.x) (reverse l.left) l.out) (at l.purse (marks_of l.log)) (each (taken_out l.x) l.fn.cs []) (at l.fn.purse (marks_of l.fn.log));
  near : farthest l.x l.left ≤ farthest l.x l.fn.cs;
  budget : l.purse.budget < 2 ^ 32;
}

abbrev pub decreases-take_out_all-loop-c : goal.decreases-take_out_all-loop-c
decreases-take_out_all-loop-c l = length l.left
