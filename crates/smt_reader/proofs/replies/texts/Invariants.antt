use Rattle.std.proofs.Common.{◌≡◌, map, take}
use Rattle.smt_commands.specs.Commands.{text_of}
use Rattle.smt_lists.specs.Expressions.{expr}
use Rattle.smt_reader.proofs.replies.texts.Given as goal

abbrev pub invariant-loop-symbol : goal.invariant-loop-symbol
invariant-loop-symbol l = l.texts ≡ map text_of (map expr (take l.symbol-index l.symbols))
