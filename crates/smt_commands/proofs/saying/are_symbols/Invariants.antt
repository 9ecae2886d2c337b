use Rattle.std.proofs.Common.{◌≡◌, map, length}
use Rattle.std.specs.List.{list_all}
use Rattle.smt_lists.specs.Expressions.{expr}
use Rattle.smt_commands.specs.Commands.{is_symbol}
use Rattle.smt_commands.proofs.saying.are_symbols.Given as goal

abbrev pub invariant-loop-item : goal.invariant-loop-item
invariant-loop-item l = list_all is_symbol (map expr l.rest) ≡ list_all is_symbol (map expr l.items)

abbrev pub decreases-loop-item : goal.decreases-loop-item
decreases-loop-item l = length l.rest
