use Rattle.std.proofs.Common.{◌≡◌, ◌++◌, length, drop, map}
use Rattle.std.specs.Prelude.{codes}
use Rattle.pri_printer.specs.Text.{behind_each, clause_text}
use Rattle.pri_printer.specs.Names.{DnfNames, IsVariableBelow}
use Rattle.pri_printer.specs.Printed.{constants_of}
use Rattle.pri_printer.proofs.constraint.put_clauses.Given as goal

abbrev pub invariant-loop-clause : goal.invariant-loop-clause
invariant-loop-clause l = record {
  text : l.out.items ++ behind_each (codes " | ") (map (clause_text (constants_of l.p) l.k) (drop l.clause-index l.clauses))
      ≡ l.fn.out.items ++ behind_each (codes " | ") (map (clause_text (constants_of l.p) l.k) l.clauses);
  over : DnfNames (IsVariableBelow (length (constants_of l.p))) (drop l.clause-index l.clauses);
}
