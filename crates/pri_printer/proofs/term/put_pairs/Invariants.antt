use Rattle.std.proofs.Common.{◌≡◌, ◌++◌, length, drop, map}
use Rattle.pri_printer.specs.Text.{added_texts, later_text}
use Rattle.pri_printer.specs.Summands.{monomial}
use Rattle.pri_printer.specs.Names.{PairNames, IsVariableBelow}
use Rattle.pri_printer.specs.Printed.{constants_of}
use Rattle.pri_printer.proofs.term.put_pairs.Given as goal

abbrev pub invariant-loop-pair : goal.invariant-loop-pair
invariant-loop-pair l = record {
  text : l.out.items ++ added_texts (map (later_text (constants_of l.p)) (map monomial (drop l.pair-index l.pairs)))
      ≡ l.fn.out.items ++ added_texts (map (later_text (constants_of l.p)) (map monomial l.pairs));
  below : PairNames (IsVariableBelow (length (constants_of l.p))) (drop l.pair-index l.pairs);
}
