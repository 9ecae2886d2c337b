use Rattle.std.proofs.Common.{◌≡◌, ◌++◌, drop}
use Rattle.pri_printer.specs.Counterexample.{lines_text}
use Rattle.model_printer.specs.Models.{value_lines}
use Rattle.model_printer.proofs.models.put_value_lines.Given as goal

abbrev pub invariant-loop-row : goal.invariant-loop-row
invariant-loop-row l = l.out.items ++ lines_text (value_lines l.name l.default (drop l.row-index l.rows)) ≡ l.fn.out.items ++ lines_text (value_lines l.name l.default l.rows)
