use Rattle.std.proofs.Common.{◌≡◌, take}
use Rattle.clause_checker.specs.Prices as prices
use Rattle.clause_checker.proofs.formula_prices.widths.Given as goal

abbrev pub invariant-loop-t : goal.invariant-loop-t
invariant-loop-t l = l.out ≡ prices.widths (take l.t-index l.ts)
