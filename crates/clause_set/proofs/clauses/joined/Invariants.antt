use Rattle.clause_set.specs.Dnfs.{joined_with}
use Rattle.clause_set.proofs.Walks.{FlatMaps}
use Rattle.clause_set.proofs.clauses.joined.Given as goal

abbrev pub invariant-loop-c : goal.invariant-loop-c
invariant-loop-c l = FlatMaps (λ d. joined_with d l.b) l.a l.c-index l.out
