use Rattle.clause_set.specs.Shadows.{factor, splinter_count}
use Rattle.clause_set.proofs.Weights.{Sums}
use Rattle.elim_rules.proofs.dark_shadow.count_all.Given as goal

abbrev pub invariant-loop-low : goal.invariant-loop-low
invariant-loop-low l = Sums (λ k. splinter_count l.a (factor l.x k)) l.lows l.low-index l.sum
