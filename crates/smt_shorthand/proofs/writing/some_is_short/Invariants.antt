use Rattle.std.proofs.Common.{◌≡◌, drop, map}
use Rattle.std.specs.List.{list_any}
use Rattle.smt_lists.specs.Expressions.{expr}
use Rattle.smt_shorthand.specs.Writing.{is_short}
use Rattle.smt_shorthand.proofs.writing.some_is_short.Given as goal

abbrev pub invariant-loop-e : goal.invariant-loop-e
invariant-loop-e l = list_any is_short (map expr (drop l.e-index l.es)) ≡ list_any is_short (map expr l.es)
