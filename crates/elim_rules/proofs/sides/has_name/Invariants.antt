use Rattle.clause_set.specs.Names.{has}
use Rattle.clause_set.proofs.Walks.{Fails}
use Rattle.elim_rules.proofs.sides.has_name.Given as goal

abbrev pub invariant-loop-l : goal.invariant-loop-l
invariant-loop-l l = Fails (has l.x) l.ls l.l-index
