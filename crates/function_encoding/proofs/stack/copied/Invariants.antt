use Rattle.std.proofs.Common.{◌≡◌, take}
use Rattle.function_encoding.proofs.stack.copied.Given as goal

abbrev pub invariant-loop-t : goal.invariant-loop-t
invariant-loop-t l = l.out ≡ take l.t-index l.terms
