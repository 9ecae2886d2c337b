use Rattle.std.proofs.Common.{[], drop}
use Rattle.base_budget.specs.Trace.{at}
use Rattle.base_budget.specs.Work.{Remains}
use Rattle.clause_set.specs.Dnfs.{negated_clauses, negation}
use Rattle.clause_set.proofs.negation.negated_clauses.Given as goal

abbrev pub invariant-loop-c : goal.invariant-loop-c
invariant-loop-c l = Remains (negated_clauses (drop l.c-index l.cs) l.out) (at l.purse []) (negation l.cs) (at l.fn.purse [])
