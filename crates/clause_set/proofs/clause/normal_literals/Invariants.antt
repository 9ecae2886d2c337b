use Rattle.clause_set.specs.Clauses.{is_false, literals_of}
use Rattle.clause_set.specs.Normal.{normal_of}
use Rattle.clause_set.proofs.Walks.{Fails, FlatMaps}
use Rattle.clause_set.proofs.clause.normal_literals.Given as goal

abbrev pub invariant-loop-l : goal.invariant-loop-l
invariant-loop-l l = record {
  none_false : Fails (λ k. is_false (normal_of k)) l.ls l.l-index;
  literals : FlatMaps (λ k. literals_of (normal_of k)) l.ls l.l-index l.out;
}
