use Rattle.std.proofs.Common.{suc}
use Rattle.clause_set.proofs.Weights.{Sums}
use Rattle.clause_checker.proofs.formula_prices.widths_price.Given as goal

abbrev pub invariant-loop-w : goal.invariant-loop-w
invariant-loop-w l = Sums (λ w. suc w) l.ws l.w-index l.total
