use Rattle.std.proofs.Common.{◌≡◌, take}
use Rattle.search.proofs.finishing.clauses_of.Given as goal

abbrev pub invariant-loop-c : goal.invariant-loop-c
invariant-loop-c l = l.out ≡ take l.c-index l.clauses
