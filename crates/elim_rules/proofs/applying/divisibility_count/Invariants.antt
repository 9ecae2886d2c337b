use Rattle.clause_set.specs.Names.{is_divisibility}
use Rattle.elim_rules.proofs.Placing.{Counts}
use Rattle.elim_rules.proofs.applying.divisibility_count.Given as goal

abbrev pub invariant-loop-l : goal.invariant-loop-l
invariant-loop-l l = Counts (is_divisibility l.x) l.ls l.l-index l.count
