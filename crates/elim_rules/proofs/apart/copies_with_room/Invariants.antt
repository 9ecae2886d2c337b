use Rattle.clause_set.proofs.Walks.{Copies}
use Rattle.elim_rules.proofs.apart.copies_with_room.Given as goal

abbrev pub invariant-loop-l : goal.invariant-loop-l
invariant-loop-l l = Copies l.ls l.l-index l.out
