use Rattle.std.proofs.Common.{◌≡◌, map, take}
use Rattle.clause_checker.proofs.summing.literals.Given as goal

abbrev pub invariant-loop-x : goal.invariant-loop-x
invariant-loop-x l = l.out ≡ map (λ x. x.literal) (take l.x-index l.factors)
