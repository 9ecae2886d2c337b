use Rattle.std.proofs.Common.{◌≡◌, drop, map, []}
use Rattle.smt_lists.specs.Expressions.{expr}
use Rattle.smt_shorthand.specs.Table.{parameters_in}
use Rattle.smt_shorthand.proofs.table.read_parameters.Given as goal

abbrev pub invariant-loop-e : goal.invariant-loop-e
invariant-loop-e l = parameters_in l.names (map expr (drop l.e-index l.es)) ≡ parameters_in [] (map expr l.es)
