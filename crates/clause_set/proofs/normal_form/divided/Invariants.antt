use Rattle.std.proofs.Common.{◌≡◌, take}
use Rattle.clause_set.specs.Normal.{divided}
use Rattle.clause_set.proofs.normal_form.divided.Given as goal

abbrev pub invariant-loop-pair : goal.invariant-loop-pair
invariant-loop-pair l = l.out.items ≡ divided l.g (take l.pair-index l.pairs)
