use Rattle.std.proofs.Common.{suc}
use Rattle.std.specs.List.{slice_get}
use Rattle.clause_set.proofs.Weights.{Sums}
use Rattle.clause_checker.specs.Prices as prices
use Rattle.clause_checker.proofs.formula_prices.names_price.Given as goal

abbrev pub invariant-loop-pair : goal.invariant-loop-pair
invariant-loop-pair l = Sums (λ p. suc (prices.or_none (slice_get l.ws p.0))) l.pairs l.pair-index l.total
