use Rattle.elim_rules.specs.Sides.{stands}
use Rattle.clause_set.proofs.Walks.{Filters}
use Rattle.elim_rules.proofs.sides.literals_on.Given as goal

abbrev pub invariant-loop-l : goal.invariant-loop-l
invariant-loop-l l = Filters (stands l.side l.x) l.ls l.l-index l.out
