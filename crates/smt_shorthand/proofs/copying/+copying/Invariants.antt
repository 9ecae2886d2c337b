use Rattle.std.proofs.Common.{◌≡◌, take}
use Rattle.smt_shorthand.proofs.copying.+copying.Given as goal

abbrev pub invariant-copy_all-loop-e : goal.invariant-copy_all-loop-e
invariant-copy_all-loop-e l = l.out ≡ take l.e-index l.es
