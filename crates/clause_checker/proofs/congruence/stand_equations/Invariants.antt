use Rattle.std.proofs.Common.{◌≤◌, drop, length}
use Rattle.clause_proof.specs.Lines.{equations, stand_all}
use Rattle.clause_checker.specs.Views.{definitions_of}
use Rattle.clause_checker.proofs.Stands.{StandLeft}
use Rattle.clause_checker.proofs.congruence.stand_equations.Given as goal

abbrev pub invariant-loop-i : goal.invariant-loop-i
invariant-loop-i l = record {
  most : l.i ≤ length l.ss;
  left : StandLeft (definitions_of l.definitions) (equations (drop l.i l.ss) (drop l.i l.ts)) (drop l.i l.literals) (stand_all (definitions_of l.initial.definitions) (equations l.ss l.ts) l.literals);
}
