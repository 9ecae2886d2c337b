use Rattle.std.proofs.Common.{◌≡◌, take}
use Rattle.model_formulas.proofs.putting.with_term.Given as goal

abbrev pub invariant-loop-t : goal.invariant-loop-t
invariant-loop-t l = l.out ≡ take l.t-index l.ts
