use Rattle.std.proofs.Common.{◌≡◌, length}
use Rattle.form_typed.specs.Formula.{formula}
use Rattle.itp_sides.specs.Closing.{quantified}
use Rattle.pred_interpolant.proofs.closing.quantified.Given as goal

abbrev pub invariant-loop-last : goal.invariant-loop-last
invariant-loop-last l = quantified l.all l.outer (formula l.whole) ≡ quantified l.all l.sorts (formula l.initial.whole)

abbrev pub decreases-loop-last : goal.decreases-loop-last
decreases-loop-last l = length l.outer
