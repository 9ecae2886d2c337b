use Rattle.std.proofs.Common.{◌≡◌, reverse, take, drop}
use Rattle.function_encoding.proofs.stack.taken.Given as goal

abbrev pub invariant-loop : goal.invariant-loop
invariant-loop l = (l.out ≡ take l.counter (reverse l.fn.stack)) × (reverse l.stack ≡ drop l.counter (reverse l.fn.stack))
