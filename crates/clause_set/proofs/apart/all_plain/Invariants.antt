use Rattle.clause_set.specs.Apart.{is_plain}
use Rattle.clause_set.proofs.Walks.{Passes}
use Rattle.clause_set.proofs.apart.all_plain.Given as goal

abbrev pub invariant-loop-l : goal.invariant-loop-l
invariant-loop-l l = Passes is_plain l.ls l.l-index
