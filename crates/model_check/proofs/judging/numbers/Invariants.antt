use Rattle.std.proofs.Common.{◌≡◌, map, take}
use Rattle.linear_term.specs.Linear.{number}
use Rattle.model_check.proofs.judging.numbers.Given as goal

abbrev pub invariant-loop-i : goal.invariant-loop-i
invariant-loop-i l = l.out ≡ map number (take l.i l.xs)
