use Rattle.std.proofs.Common.{◌≡◌, ◌++◌, length, drop, map}
use Rattle.std.specs.Prelude.{codes}
use Rattle.pri_printer.specs.Text.{behind_each, literal_text}
use Rattle.pri_printer.specs.Names.{ClauseNames, IsVariableBelow}
use Rattle.pri_printer.specs.Printed.{constants_of}
use Rattle.pri_printer.proofs.constraint.put_literals.Given as goal

abbrev pub invariant-loop-literal : goal.invariant-loop-literal
invariant-loop-literal l = record {
  text : l.out.items ++ behind_each (codes " & ") (map (literal_text (constants_of l.p) l.k) (drop l.literal-index l.literals))
      ≡ l.fn.out.items ++ behind_each (codes " & ") (map (literal_text (constants_of l.p) l.k) l.literals);
  over : ClauseNames (IsVariableBelow (length (constants_of l.p))) (drop l.literal-index l.literals);
}
