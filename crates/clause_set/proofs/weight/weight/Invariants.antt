use Rattle.clause_set.specs.Weight.{clause_weight}
use Rattle.clause_set.proofs.Weights.{Sums}
use Rattle.clause_set.proofs.weight.weight.Given as goal

abbrev pub invariant-loop-c : goal.invariant-loop-c
invariant-loop-c l = Sums clause_weight l.d l.c-index l.sum
