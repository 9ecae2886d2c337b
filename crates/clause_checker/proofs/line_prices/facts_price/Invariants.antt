use Rattle.std.specs.List.{slice_get}
use Rattle.clause_set.proofs.Weights.{Sums}
use Rattle.clause_checker.specs.Prices as prices
use Rattle.clause_checker.specs.Views.{definitions_of}
use Rattle.clause_checker.proofs.line_prices.facts_price.Given as goal

abbrev pub invariant-loop-x : goal.invariant-loop-x
invariant-loop-x l = Sums (λ x. prices.priced (slice_get (definitions_of l.definitions) x.literal.variable) prices.definition_price) l.factors l.x-index l.total
