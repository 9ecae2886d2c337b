use Rattle.elim_rules.proofs.Filters.{Greatest}
use Rattle.elim_rules.proofs.sides.greatest_factor.Given as goal

abbrev pub invariant-loop-l : goal.invariant-loop-l
invariant-loop-l l = Greatest l.x l.ls l.l-index l.most
