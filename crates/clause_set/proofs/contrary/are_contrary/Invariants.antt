use Rattle.clause_set.specs.Contrary.{is_excluded}
use Rattle.clause_set.proofs.Walks.{Fails}
use Rattle.clause_set.proofs.contrary.are_contrary.Given as goal

abbrev pub invariant-loop-l : goal.invariant-loop-l
invariant-loop-l l = Fails (is_excluded l.c) l.d l.l-index
