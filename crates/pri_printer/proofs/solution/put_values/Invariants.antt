use Rattle.std.proofs.Common.{◌≡◌, ◌++◌, drop}
use Rattle.std.specs.Prelude.{codes}
use Rattle.pri_printer.specs.Text.{behind_each, value_texts}
use Rattle.pri_printer.proofs.solution.put_values.Given as goal

abbrev pub invariant-loop-i : goal.invariant-loop-i
invariant-loop-i l = l.out.items ++ behind_each (codes ", ") (value_texts (drop l.i l.names) (drop l.i l.values))
    ≡ l.fn.out.items ++ behind_each (codes ", ") (value_texts l.names l.values)
