use Rattle.clause_set.specs.Apart.{is_open}
use Rattle.clause_set.proofs.Walks.{Passes}
use Rattle.clause_set.proofs.apart.all_open.Given as goal

abbrev pub invariant-loop-l : goal.invariant-loop-l
invariant-loop-l l = Passes (is_open l.ls) l.ls l.l-index
