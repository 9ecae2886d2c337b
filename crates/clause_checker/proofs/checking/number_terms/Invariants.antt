use Rattle.std.proofs.Common.{◌≡◌, map, take}
use Rattle.linear_term.specs.Linear.{number}
use Rattle.clause_checker.proofs.checking.number_terms.Given as goal

abbrev pub invariant-loop-k : goal.invariant-loop-k
invariant-loop-k l = l.out ≡ map number (take l.k-index l.ks)
