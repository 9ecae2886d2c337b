use Rattle.clause_set.proofs.Walks.{Copies}
use Rattle.clause_set.proofs.clause.copy_literals.Given as goal

abbrev pub invariant-loop-l : goal.invariant-loop-l
invariant-loop-l l = Copies l.ls l.l-index l.out
