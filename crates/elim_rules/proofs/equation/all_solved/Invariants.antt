use Rattle.std.proofs.Common.{[], drop}
use Rattle.std.specs.Prelude.{All}
use Rattle.base_budget.specs.Trace.{each}
use Rattle.clause_set.specs.Equations.{solved_or_kept}
use Rattle.clause_set.specs.Literals.{HasDivisor}
use Rattle.base_budget.proofs.Charging.{Left}
use Rattle.elim_rules.proofs.equation.all_solved.Given as goal

abbrev pub invariant-loop-l : goal.invariant-loop-l
invariant-loop-l l = Left (each (solved_or_kept l.q.x l.q.a l.q.s) (drop l.l-index l.rest) l.out) (each (solved_or_kept l.q.x l.q.a l.q.s) l.rest []) × All HasDivisor l.out
