use Rattle.clause_set.specs.Clauses.{clause_of, found}
use Rattle.clause_set.proofs.Walks.{FlatMaps}
use Rattle.elim_steps.proofs.forms.clauses.Given as goal

abbrev pub invariant-loop-d : goal.invariant-loop-d
invariant-loop-d l = FlatMaps (λ k. found (clause_of k)) l.ds l.d-index l.out
