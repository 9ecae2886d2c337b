use Rattle.std.proofs.Common.{◌≡◌, drop, map}
use Rattle.std.specs.List.{list_any}
use Rattle.smt_lists.specs.Expressions.{expr}
use Rattle.smt_shorthand.specs.Functions.{defines_function}
use Rattle.smt_shorthand.proofs.functions.some_defines_function.Given as goal

abbrev pub invariant-loop-e : goal.invariant-loop-e
invariant-loop-e l = list_any defines_function (map expr (drop l.e-index l.es)) ≡ list_any defines_function (map expr l.es)
