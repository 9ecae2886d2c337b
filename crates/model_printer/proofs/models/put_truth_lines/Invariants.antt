use Rattle.std.proofs.Common.{◌≡◌, ◌++◌, drop}
use Rattle.pri_printer.specs.Counterexample.{lines_text}
use Rattle.model_printer.specs.Models.{truth_lines}
use Rattle.model_printer.proofs.models.put_truth_lines.Given as goal

abbrev pub invariant-loop-row : goal.invariant-loop-row
invariant-loop-row l = l.out.items ++ lines_text (truth_lines l.name l.default (drop l.row-index l.rows)) ≡ l.fn.out.items ++ lines_text (truth_lines l.name l.default l.rows)
