use Rattle.std.proofs.Common.{◌≡◌, take, map}
use Rattle.smt_lists.specs.Expressions.{expr}
use Rattle.smt_shorthand.specs.Equations.{second_of}
use Rattle.smt_shorthand.proofs.equations.seconds.Given as goal

abbrev pub invariant-loop-variable : goal.invariant-loop-variable
invariant-loop-variable l = map expr l.sorts ≡ map second_of (map expr (take l.variable-index l.variables))
