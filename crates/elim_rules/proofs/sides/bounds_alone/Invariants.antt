use Rattle.std.proofs.Common.{not, ◌||◌}
use Rattle.clause_set.specs.Names.{has, is_bound}
use Rattle.clause_set.proofs.Walks.{Passes}
use Rattle.elim_rules.proofs.sides.bounds_alone.Given as goal

abbrev pub invariant-loop-l : goal.invariant-loop-l
invariant-loop-l l = Passes (λ m. not (has l.x m) || is_bound l.x m) l.ls l.l-index
