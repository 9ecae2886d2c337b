-- With the numbers of the sets that are left the list is whole.
use Rattle.std.proofs.Common.{◌≡◌, ◌++◌, drop}
use Rattle.std.specs.List.{concat}
use Rattle.interpolant.proofs.parts.together.Given as goal

abbrev pub invariant-loop-set : goal.invariant-loop-set
invariant-loop-set l = l.numbers.items ++ concat (drop l.set-index l.sets) ≡ concat l.sets
