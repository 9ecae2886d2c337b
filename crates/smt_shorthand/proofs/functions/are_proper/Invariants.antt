use Rattle.std.proofs.Common.{◌≡◌, drop, map}
use Rattle.smt_lists.specs.Expressions.{expr}
use Rattle.smt_shorthand.specs.Functions.{are_new, are_proper}
use Rattle.smt_shorthand.proofs.functions.are_proper.Given as goal

abbrev pub invariant-loop-variable : goal.invariant-loop-variable
invariant-loop-variable l = are_new l.seen (map expr (drop l.variable-index l.variables)) ≡ are_proper l.text (map expr l.variables)
