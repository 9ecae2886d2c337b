use Rattle.std.proofs.Common.{◌||◌}
use Rattle.clause_set.specs.Names.{is_equation, is_indivisibility}
use Rattle.clause_set.proofs.Walks.{Fails}
use Rattle.elim_rules.proofs.applying.has_others.Given as goal

abbrev pub invariant-loop-l : goal.invariant-loop-l
invariant-loop-l l = Fails (λ k. is_equation l.x k || is_indivisibility l.x k) l.ls l.l-index
