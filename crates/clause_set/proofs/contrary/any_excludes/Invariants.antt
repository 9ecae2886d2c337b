use Rattle.clause_set.specs.Contrary.{excludes}
use Rattle.clause_set.proofs.Walks.{Fails}
use Rattle.clause_set.proofs.contrary.any_excludes.Given as goal

abbrev pub invariant-loop-l : goal.invariant-loop-l
invariant-loop-l l = Fails (excludes l.t) l.ls l.l-index
