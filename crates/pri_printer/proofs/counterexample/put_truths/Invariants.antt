use Rattle.std.proofs.Common.{◌≡◌, ◌++◌, drop, map}
use Rattle.pri_printer.specs.Counterexample.{lines_text, truth_text}
use Rattle.pri_printer.proofs.counterexample.put_truths.Given as goal

abbrev pub invariant-loop-row : goal.invariant-loop-row
invariant-loop-row l = l.out.items ++ lines_text (map (truth_text l.p.predicates) (drop l.row-index l.rows))
    ≡ l.fn.out.items ++ lines_text (map (truth_text l.p.predicates) l.rows)
