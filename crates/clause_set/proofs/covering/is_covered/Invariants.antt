use Rattle.clause_set.specs.Dnfs.{outdoes}
use Rattle.clause_set.proofs.Walks.{Fails}
use Rattle.clause_set.proofs.covering.is_covered.Given as goal

abbrev pub invariant-loop-d : goal.invariant-loop-d
invariant-loop-d l = Fails (λ d. outdoes d l.c) l.cs l.d-index
