use Rattle.std.proofs.Common.{drop}
use Rattle.formula.specs.Tree.{form}
use Rattle.clause_checker.specs.Prices as prices
use Rattle.clause_checker.proofs.Prices.{PriceLeft}
use Rattle.clause_checker.proofs.line_prices.read_price.Given as goal

abbrev pub invariant-loop : goal.invariant-loop
invariant-loop l = PriceLeft l.total (prices.read_price l.ws (drop l.index l.bs) (form l.rest)) (prices.read_price l.initial.ws l.bs (form l.initial.rest))
