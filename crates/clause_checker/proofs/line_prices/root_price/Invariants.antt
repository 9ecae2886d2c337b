use Rattle.std.proofs.Common.{◌≡◌, map, take}
use Rattle.clause_checker.proofs.line_prices.root_price.Given as goal

abbrev pub invariant-loop : goal.invariant-loop
invariant-loop l = l.ws ≡ map (λ k. 0) (take l.index l.ks)
