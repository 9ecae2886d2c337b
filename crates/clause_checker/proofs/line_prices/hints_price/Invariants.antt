use Rattle.std.proofs.Common.{suc}
use Rattle.std.specs.List.{slice_get}
use Rattle.clause_set.proofs.Weights.{Sums}
use Rattle.clause_checker.specs.Prices as prices
use Rattle.clause_checker.proofs.line_prices.hints_price.Given as goal

abbrev pub invariant-loop-h : goal.invariant-loop-h
invariant-loop-h l = Sums (λ h. suc (prices.priced (slice_get l.clauses h) prices.clause_price)) l.hints l.h-index l.total
