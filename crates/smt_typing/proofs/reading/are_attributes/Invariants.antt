use Rattle.std.proofs.Common.{◌≡◌, map, length}
use Rattle.smt_lists.specs.Expressions.{expr}
use Rattle.smt_typing.specs.Reading.{are_attributes, are_attributes_behind}
use Rattle.smt_typing.proofs.reading.are_attributes.Given as goal

abbrev pub invariant-loop-e : goal.invariant-loop-e
invariant-loop-e l = are_attributes_behind l.value (map expr l.rest) ≡ are_attributes (map expr l.es)

abbrev pub decreases-loop-e : goal.decreases-loop-e
decreases-loop-e l = length l.rest
