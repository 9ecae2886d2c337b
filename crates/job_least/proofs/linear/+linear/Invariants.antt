use Rattle.std.proofs.Common.{drop}
use Rattle.base_budget.proofs.Charging.{Left}
use Rattle.form_typed.specs.Formula.{expression, expressions_of}
use Rattle.form_encoding.specs.Root.{names_from}
use Rattle.form_encoding.specs.Plain.{linear_more, linear_sum}
use Rattle.job_least.specs.Plain.{weight_of, weights_of}
use Rattle.job_least.proofs.Linears.{Rest}
use Rattle.job_least.proofs.linear.+linear.Given as goal

abbrev pub decreases-linear_term : goal.decreases-linear_term
decreases-linear_term l = weight_of (expression l.term.now)

abbrev pub decreases-linear_sum : goal.decreases-linear_sum
decreases-linear_sum l = weights_of (expressions_of l.terms.now)

abbrev pub invariant-linear_sum-loop-t : goal.invariant-linear_sum-loop-t
invariant-linear_sum-loop-t l = Left (linear_more (names_from 0 l.names) (expressions_of (drop l.t-index l.others)) l.sum) (linear_sum (names_from 0 l.names) (expressions_of l.terms))
    × Rest l.others l.t-index (weights_of (expressions_of l.terms))
