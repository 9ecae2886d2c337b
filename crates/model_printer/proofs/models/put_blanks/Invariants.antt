use Rattle.std.proofs.Common.{◌≡◌, ◌-◌, ◌++◌}
use Rattle.std.specs.Prelude.{codes, replicate}
use Rattle.pri_printer.specs.Text.{behind_each}
use Rattle.model_printer.proofs.models.put_blanks.Given as goal

abbrev pub invariant-loop : goal.invariant-loop
invariant-loop l = l.out.items ++ behind_each (codes ", ") (replicate (l.n - l.counter) (codes "_")) ≡ l.fn.out.items ++ behind_each (codes ", ") (replicate l.n (codes "_"))
