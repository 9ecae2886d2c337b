use Rattle.std.proofs.Common.{◌≡◌, ◌-◌}
use Rattle.pri_typing.specs.WellFormed.{names_of_symbols}
use Rattle.pri_printer.specs.Quotient.{quotient_number}
use Rattle.pri_printer.proofs.Searching.{free_within}
use Rattle.pri_printer.proofs.quotient.free_text.Given as goal

abbrev pub invariant-loop-n : goal.invariant-loop-n
invariant-loop-n l = free_within (1000 - l.n) l.n (names_of_symbols l.p) ≡ quotient_number l.p
