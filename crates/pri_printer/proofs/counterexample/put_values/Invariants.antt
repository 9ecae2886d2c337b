use Rattle.std.proofs.Common.{◌≡◌, ◌++◌, drop, map}
use Rattle.pri_printer.specs.Counterexample.{lines_text, row_text}
use Rattle.pri_printer.proofs.counterexample.put_values.Given as goal

abbrev pub invariant-loop-row : goal.invariant-loop-row
invariant-loop-row l = l.out.items ++ lines_text (map (row_text l.p.functions) (drop l.row-index l.rows))
    ≡ l.fn.out.items ++ lines_text (map (row_text l.p.functions) l.rows)
