use Rattle.std.proofs.Common.{◌≤◌, drop, length}
use Rattle.formula.specs.Tree.{forms_of}
use Rattle.clause_proof.specs.Lines.{members, stand_all}
use Rattle.clause_checker.specs.Views.{definitions_of}
use Rattle.clause_checker.proofs.Stands.{StandLeft}
use Rattle.clause_checker.proofs.standing.stand_members.Given as goal

abbrev pub invariant-loop-i : goal.invariant-loop-i
invariant-loop-i l = record {
  most : l.i ≤ length l.fs;
  left : StandLeft (definitions_of l.definitions) (members (forms_of (drop l.i l.fs)) l.ts) (drop l.i l.literals) (stand_all (definitions_of l.initial.definitions) (members (forms_of l.fs) l.ts) l.literals);
}
