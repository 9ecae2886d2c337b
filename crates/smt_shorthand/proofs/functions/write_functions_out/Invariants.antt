use Rattle.std.proofs.Common.{◌≡◌, ◌++◌, drop, map}
use Rattle.smt_lists.specs.Expressions.{expr}
use Rattle.smt_shorthand.specs.Functions.{written_from}
use Rattle.smt_shorthand.proofs.functions.write_functions_out.Given as goal

abbrev pub invariant-loop-e : goal.invariant-loop-e
invariant-loop-e l = map expr l.out ++ written_from (map expr (drop l.e-index l.es)) ≡ written_from (map expr l.es)
