use Rattle.std.proofs.Common.{◌≡◌, drop, map}
use Rattle.smt_lists.specs.Expressions.{expr}
use Rattle.smt_typing.specs.Reading.{variables_of}
use Rattle.smt_typing.proofs.Collecting.{joined}
use Rattle.smt_typing.proofs.reading.read_variables.Given as goal

abbrev pub invariant-loop-pair : goal.invariant-loop-pair
invariant-loop-pair l = joined l.variables (variables_of (map expr (drop l.pair-index l.pairs))) ≡ variables_of (map expr l.pairs)
