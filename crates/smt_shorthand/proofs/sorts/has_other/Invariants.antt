use Rattle.std.proofs.Common.{◌≡◌, drop}
use Rattle.smt_shorthand.specs.Sorts.{has_other}
use Rattle.smt_shorthand.proofs.sorts.has_other.Given as goal

abbrev pub invariant-loop-argument : goal.invariant-loop-argument
invariant-loop-argument l = has_other (drop l.argument-index l.arguments) ≡ has_other l.arguments
