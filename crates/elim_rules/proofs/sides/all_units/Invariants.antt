use Rattle.clause_set.specs.Rules.{has_unit}
use Rattle.clause_set.proofs.Walks.{Passes}
use Rattle.elim_rules.proofs.sides.all_units.Given as goal

abbrev pub invariant-loop-l : goal.invariant-loop-l
invariant-loop-l l = Passes (has_unit l.x) l.ls l.l-index
