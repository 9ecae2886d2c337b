use Rattle.std.proofs.Common.{drop}
use Rattle.formula.specs.Tree.{form}
use Rattle.clause_checker.specs.Prices as prices
use Rattle.clause_checker.proofs.Prices.{PriceLeft}
use Rattle.clause_checker.proofs.line_prices.instance_price.Given as goal

abbrev pub invariant-loop-u : goal.invariant-loop-u
invariant-loop-u l = PriceLeft l.total (prices.instance_price l.ws (drop l.u-index l.us) (form l.rest)) (prices.instance_price l.initial.ws l.us (form l.initial.rest))
