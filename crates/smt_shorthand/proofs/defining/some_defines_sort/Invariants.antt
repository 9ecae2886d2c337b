use Rattle.std.proofs.Common.{◌≡◌, drop, map}
use Rattle.std.specs.List.{list_any}
use Rattle.smt_lists.specs.Expressions.{expr}
use Rattle.smt_shorthand.specs.Defining.{defines_sort}
use Rattle.smt_shorthand.proofs.defining.some_defines_sort.Given as goal

abbrev pub invariant-loop-e : goal.invariant-loop-e
invariant-loop-e l = list_any defines_sort (map expr (drop l.e-index l.es)) ≡ list_any defines_sort (map expr l.es)
