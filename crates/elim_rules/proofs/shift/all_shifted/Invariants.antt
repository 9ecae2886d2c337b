use Rattle.std.proofs.Common.{[], drop}
use Rattle.std.specs.Prelude.{All}
use Rattle.base_budget.specs.Trace.{each}
use Rattle.clause_set.specs.Divisibilities.{shifted}
use Rattle.clause_set.specs.Literals.{HasDivisor, term_of}
use Rattle.clause_set.specs.Order.{divisor_of}
use Rattle.elim_rules.specs.Answers.{bezout_of}
use Rattle.base_budget.proofs.Charging.{Left}
use Rattle.elim_rules.proofs.shift.all_shifted.Given as goal

abbrev pub invariant-loop-m : goal.invariant-loop-m
invariant-loop-m l = Left (each (shifted l.x (divisor_of l.l) (bezout_of l.z) (term_of l.l)) (drop l.m-index l.rest) l.out) (each (shifted l.x (divisor_of l.l) (bezout_of l.z) (term_of l.l)) l.rest []) × All HasDivisor l.out
