use Rattle.std.proofs.Common.{◌≡◌, ◌++◌, drop}
use Rattle.pri_printer.specs.Counterexample.{lines_text}
use Rattle.pri_printer.specs.Text.{value_texts}
use Rattle.pri_printer.proofs.counterexample.put_constants.Given as goal

abbrev pub invariant-loop-i : goal.invariant-loop-i
invariant-loop-i l = l.out.items ++ lines_text (value_texts (drop l.i l.names) (drop l.i l.values))
    ≡ l.fn.out.items ++ lines_text (value_texts l.names l.values)
