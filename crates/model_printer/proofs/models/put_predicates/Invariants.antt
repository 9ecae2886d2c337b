use Rattle.std.proofs.Common.{◌≡◌, ◌++◌, length}
use Rattle.pri_printer.specs.Counterexample.{lines_text}
use Rattle.model_printer.specs.Models.{predicates_lines}
use Rattle.model_printer.proofs.models.put_predicates.Given as goal

abbrev pub invariant-loop-symbol : goal.invariant-loop-symbol
invariant-loop-symbol l = l.out.items ++ lines_text (predicates_lines l.symbols l.models) ≡ l.fn.out.items ++ lines_text (predicates_lines l.fn.symbols l.fn.models)

abbrev pub decreases-loop-symbol : goal.decreases-loop-symbol
decreases-loop-symbol l = length l.symbols
