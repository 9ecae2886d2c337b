use Rattle.std.proofs.Common.{◌≡◌, drop}
use Rattle.smt_lists.specs.Expressions.{exprs_of}
use Rattle.smt_division.specs.Terms.{divided_all}
use Rattle.smt_division.specs.Views.{reduct_is}
use Rattle.smt_division.proofs.closing.divided_all.Given as goal

abbrev pub invariant-loop-n : goal.invariant-loop-n
invariant-loop-n l = divided_all l.at (exprs_of (drop l.n-index l.divisors)) (reduct_is l.quotient) ≡ divided_all l.at (exprs_of l.divisors) (reduct_is l.fn.dividend)
