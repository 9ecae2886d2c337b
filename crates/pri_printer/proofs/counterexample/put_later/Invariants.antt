use Rattle.std.proofs.Common.{◌≡◌, ◌++◌, drop, map}
use Rattle.std.specs.Prelude.{codes}
use Rattle.std.specs.Fmt.{signed_decimal}
use Rattle.pri_printer.specs.Text.{behind_each}
use Rattle.pri_printer.proofs.counterexample.put_later.Given as goal

abbrev pub invariant-loop-value : goal.invariant-loop-value
invariant-loop-value l = l.out.items ++ behind_each (codes ", ") (map signed_decimal (drop l.value-index l.values))
    ≡ l.fn.out.items ++ behind_each (codes ", ") (map signed_decimal l.values)
