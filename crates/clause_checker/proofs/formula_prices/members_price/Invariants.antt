use Rattle.std.proofs.Common.{drop}
use Rattle.formula.specs.Tree.{forms_of}
use Rattle.clause_checker.specs.Prices as prices
use Rattle.clause_checker.proofs.Prices.{PriceLeft}
use Rattle.clause_checker.proofs.formula_prices.members_price.Given as goal

abbrev pub invariant-loop-f : goal.invariant-loop-f
invariant-loop-f l = PriceLeft l.total (prices.members_price l.ws (forms_of (drop l.f-index l.fs))) (prices.members_price l.ws (forms_of l.fs))
