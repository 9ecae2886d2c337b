use Rattle.clause_set.specs.Apart.{leaves_open}
use Rattle.clause_set.proofs.Walks.{Passes}
use Rattle.clause_set.proofs.apart.all_leave_open.Given as goal

abbrev pub invariant-loop-l : goal.invariant-loop-l
invariant-loop-l l = Passes (leaves_open l.t) l.ls l.l-index
