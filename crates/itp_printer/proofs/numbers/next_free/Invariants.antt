use Rattle.std.proofs.Common.{◌≡◌, ◌+◌, ◌-◌}
use Rattle.pri_typing.specs.WellFormed.{names_of_symbols}
use Rattle.itp_printer.specs.Variables.{next_number}
use Rattle.itp_printer.proofs.Searching.{free_within}
use Rattle.itp_printer.proofs.numbers.next_free.Given as goal

abbrev pub invariant-loop-k : goal.invariant-loop-k
invariant-loop-k l = free_within (1000 - l.k) (l.from + l.k) (names_of_symbols l.p) ≡ next_number l.p l.from

abbrev pub decreases-loop-k : goal.decreases-loop-k
decreases-loop-k l = 1000 - l.k
