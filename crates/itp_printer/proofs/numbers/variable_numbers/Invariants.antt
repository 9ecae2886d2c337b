use Rattle.std.proofs.Common.{◌≡◌, length}
use Rattle.itp_printer.specs.Numbers.{AreNumbers}
use Rattle.itp_printer.proofs.Searching.{next_start}
use Rattle.itp_printer.proofs.numbers.variable_numbers.Given as goal

abbrev pub invariant-loop-i : goal.invariant-loop-i
invariant-loop-i l = record { numbers : AreNumbers l.p l.numbers.items; many : length l.numbers.items ≡ l.i; start : l.from ≡ next_start l.p l.i }
