use Rattle.std.proofs.Common.{◌≡◌, drop, map}
use Rattle.smt_lists.specs.Expressions.{expr}
use Rattle.smt_shorthand.specs.Defining.{commands_from, told}
use Rattle.smt_shorthand.specs.Table.{no_sorts}
use Rattle.smt_shorthand.proofs.defining.write_sorts_out.Given as goal

abbrev pub invariant-loop-e : goal.invariant-loop-e
invariant-loop-e l = told l.progress (map expr (drop l.e-index l.es)) ≡ commands_from no_sorts (map expr l.es)
