use Rattle.std.proofs.Common.{◌≡◌, ◌++◌, map, take}
use Rattle.clause_proof.specs.Lines as lines
use Rattle.clause_checker.proofs.opening.with_opposites.Given as goal

abbrev pub invariant-loop-m : goal.invariant-loop-m
invariant-loop-m l = l.out ≡ l.first ++ map lines.opposite (take l.m-index l.ms)
