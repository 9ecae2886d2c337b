use Rattle.clause_set.proofs.Weights.{Sums}
use Rattle.clause_checker.specs.Prices as prices
use Rattle.clause_checker.proofs.formula_prices.puts_price.Given as goal

abbrev pub invariant-loop-t : goal.invariant-loop-t
invariant-loop-t l = Sums (prices.put_price l.ws) l.ts l.t-index l.total
