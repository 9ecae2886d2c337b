use Rattle.std.proofs.Common.{◌≡◌, map, take, Some}
use Rattle.clause_proof.specs.Lines as lines
use Rattle.clause_checker.proofs.opening.each_false.Given as goal

abbrev pub invariant-loop-m : goal.invariant-loop-m
invariant-loop-m l = l.out ≡ map Some (lines.each_false l.i (take l.m-index l.ms))
