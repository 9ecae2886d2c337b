use Rattle.std.proofs.Common.{[], drop}
use Rattle.base_budget.specs.Trace.{at, each}
use Rattle.base_budget.specs.Work.{Remains}
use Rattle.clause_set.specs.Dnfs.{negated_literal, negated_clause}
use Rattle.clause_set.proofs.negation.negated_clause.Given as goal

abbrev pub invariant-loop-l : goal.invariant-loop-l
invariant-loop-l l = Remains (each negated_literal (drop l.l-index l.l-items) l.out) (at l.purse []) (negated_clause l.c) (at l.fn.purse [])
