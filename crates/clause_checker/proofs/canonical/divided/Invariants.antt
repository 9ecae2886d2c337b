use Rattle.std.proofs.Common.{◌≡◌, take}
use Rattle.clause_proof.specs.Atoms.{divided}
use Rattle.clause_checker.proofs.canonical.divided.Given as goal

abbrev pub invariant-loop-pair : goal.invariant-loop-pair
invariant-loop-pair l = l.out.items ≡ divided l.g (take l.pair-index l.pairs)
