use Rattle.std.proofs.Common.{◌≡◌, drop}
use Rattle.smt_lists.specs.Expressions.{exprs_of}
use Rattle.smt_division.specs.Divisors.{values}
use Rattle.smt_division.proofs.Numbers.{joined}
use Rattle.smt_division.proofs.divisors.+divisors.Given as goal

abbrev pub invariant-values-loop-e : goal.invariant-values-loop-e
invariant-values-loop-e l = joined l.numbers (values (exprs_of (drop l.e-index l.es))) ≡ values (exprs_of l.es)
