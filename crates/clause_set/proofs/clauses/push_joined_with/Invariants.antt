use Rattle.std.proofs.Common.{◌++◌}
use Rattle.clause_set.specs.Clauses.{clause_of, found}
use Rattle.clause_set.proofs.Walks.{PushesFlat}
use Rattle.clause_set.proofs.clauses.push_joined_with.Given as goal

abbrev pub invariant-loop-e : goal.invariant-loop-e
invariant-loop-e l = PushesFlat (λ k. found (clause_of (l.c ++ k))) l.d l.e-index l.fn.out l.out
