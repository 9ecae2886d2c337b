use Rattle.std.proofs.Common.{◌≡◌, take}
use Rattle.clause_checker.proofs.putting.copied.Given as goal

abbrev pub invariant-loop-t : goal.invariant-loop-t
invariant-loop-t l = l.out ≡ take l.t-index l.ts
