use Rattle.clause_set.proofs.Walks.{Copies}
use Rattle.clause_set.proofs.clauses.copy_clauses.Given as goal

abbrev pub invariant-loop-c : goal.invariant-loop-c
invariant-loop-c l = Copies l.cs l.c-index l.out
