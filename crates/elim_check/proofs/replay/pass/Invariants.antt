use Rattle.std.proofs.Common.{[], length}
use Rattle.base_budget.specs.Trace.{at}
use Rattle.base_budget.specs.Work.{Remains}
use Rattle.elim_check.specs.Steps.{passed}
use Rattle.elim_check.proofs.replay.pass.Given as goal

abbrev pub invariant-free : goal.invariant-free
invariant-free l = Remains (passed l.x l.left l.done) (at l.purse []) (passed l.fn.x l.fn.todo l.fn.out) (at l.fn.purse [])

abbrev pub decreases-free : goal.decreases-free
decreases-free l = length l.left
