use Rattle.formula.specs.Sizes.{size}
use Rattle.formula.specs.Tree.{form}
use Rattle.clause_checker.specs.Prices as prices
use Rattle.clause_checker.proofs.Prices.{PriceLeft}
use Rattle.clause_checker.proofs.formula_prices.literal_price.Given as goal

abbrev pub invariant-loop-g : goal.invariant-loop-g
invariant-loop-g l = PriceLeft l.levels (prices.literal_price l.ws (form l.rest)) (prices.literal_price l.ws (form l.f))

abbrev pub decreases-loop-g : goal.decreases-loop-g
decreases-loop-g l = size (form l.rest)
