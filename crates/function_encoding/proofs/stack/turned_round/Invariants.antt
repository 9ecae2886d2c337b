use Rattle.std.proofs.Common.{◌≡◌, ◌++◌, length, reverse}
use Rattle.function_encoding.proofs.stack.turned_round.Given as goal

abbrev pub invariant-loop-t : goal.invariant-loop-t
invariant-loop-t l = l.out ++ reverse l.terms ≡ reverse l.fn.terms

abbrev pub decreases-loop-t : goal.decreases-loop-t
decreases-loop-t l = length l.terms
