use Rattle.base_budget.proofs.Charging.{work_err, work_just, work_ok}
use Rattle.countermodel.proofs.rows.table_at.Goals as goal

pub returns-in_err-truths : goal.returns-in_err-truths
returns-in_err-truths c = work_err _ _ c.from_residual.result c.from_residual.ensures.1 c.in_err-truths.ensures

pub returns-in_err-values : goal.returns-in_err-values
returns-in_err-values c = work_ok _ _ c.in_ok-truths.ensures (work_err _ _ c.from_residual-in_err-values.result c.from_residual-in_err-values.ensures.1 c.in_err-values.ensures)

pub returns : goal.returns
returns c = work_ok _ _ c.in_ok-truths.ensures (work_ok _ _ c.in_ok-values.ensures (work_just _ _ (λ j. record { truths = c.in_ok-sorted.ensures j; values = c.in_ok-sorted-2.ensures j })))
