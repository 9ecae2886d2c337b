use Rattle.std.proofs.Common.{◌+◌, length}
use Rattle.clause_set.specs.Literals.{term_of}
use Rattle.clause_set.proofs.Weights.{Sums}
use Rattle.clause_set.proofs.weight.clause_weight.Given as goal

abbrev pub invariant-loop-l : goal.invariant-loop-l
invariant-loop-l l = Sums (λ k. 1 + length (term_of k).pairs) l.l-items l.l-index l.sum
