use Rattle.std.proofs.Common.{[], drop}
use Rattle.base_budget.specs.Trace.{each}
use Rattle.base_budget.proofs.Charging.{Left}
use Rattle.solve_laws.specs.Solutions.{valued_clause}
use Rattle.solve_values.proofs.values.valued_clauses.Given as goal

abbrev pub invariant-loop-c : goal.invariant-loop-c
invariant-loop-c l = Left (each (valued_clause l.j l.v) (drop l.c-index l.cs) l.out) (each (valued_clause l.j l.v) l.cs [])
