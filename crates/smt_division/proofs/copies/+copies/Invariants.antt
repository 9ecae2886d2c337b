use Rattle.std.proofs.Common.{◌≡◌, take}
use Rattle.smt_division.proofs.copies.+copies.Given as goal

abbrev pub invariant-copy_all-loop-e : goal.invariant-copy_all-loop-e
invariant-copy_all-loop-e l = l.copies ≡ take l.e-index l.es
