use Rattle.std.proofs.Common.{[], drop}
use Rattle.std.specs.Prelude.{All}
use Rattle.base_budget.specs.Trace.{each}
use Rattle.base_budget.proofs.Charging.{Left}
use Rattle.clause_set.specs.Literals.{HasDivisor}
use Rattle.solve_laws.specs.Solutions.{valued}
use Rattle.solve_values.proofs.values.all_valued.Given as goal

abbrev pub invariant-loop-l : goal.invariant-loop-l
invariant-loop-l l = record {
  work : Left (each (valued l.j l.v) (drop l.l-index l.ls) l.out) (each (valued l.j l.v) l.ls []);
  divisors : All HasDivisor l.out;
}
