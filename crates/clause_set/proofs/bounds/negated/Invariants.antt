use Rattle.std.proofs.Common.{◌≡◌, take}
use Rattle.clause_set.specs.Normal.{negated}
use Rattle.clause_set.proofs.bounds.negated.Given as goal

abbrev pub invariant-loop-pair : goal.invariant-loop-pair
invariant-loop-pair l = l.out.items ≡ negated (take l.pair-index l.pairs)
