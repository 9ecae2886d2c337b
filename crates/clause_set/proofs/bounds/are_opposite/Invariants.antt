use Rattle.std.proofs.Common.{◌≡◌, length, All}
use Rattle.linear_term.specs.Range.{InRange}
use Rattle.clause_set.specs.Clauses.{same_pairs}
use Rattle.clause_set.specs.Normal.{negated}
use Rattle.clause_set.proofs.bounds.are_opposite.Given as goal

abbrev pub invariant-loop-x : goal.invariant-loop-x
invariant-loop-x l = record {
  same : same_pairs l.p (negated l.q) ≡ same_pairs l.fn.p (negated l.fn.q);
  range : All (λ r. InRange r.1) l.q;
}

abbrev pub decreases-loop-x : goal.decreases-loop-x
decreases-loop-x l = length l.p
