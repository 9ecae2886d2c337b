use Rattle.elim_steps.proofs.Works.{StayBefore}
use Rattle.elim_steps.proofs.numbers.computing.Given as goal

abbrev pub invariant-loop-p : goal.invariant-loop-p
invariant-loop-p l = StayBefore l.ps l.p-index
