use Rattle.std.proofs.Common.{arith}
use Rattle.base_budget.proofs.Charging.{drop-item, left_ends, work_err}
use Rattle.countermodel.proofs.evaluating.all_evaluated.Goals as goal

pub returns-in_err-one_value : goal.returns-in_err-one_value
returns-in_err-one_value c =
    let item = drop-item c.args.ts.now c.loop-t.t-index c.t-item.result (omega arith) c.t-item.is in
    let inv = rw item at c.loop-t.invariant in
    left_ends inv (work_err _ _ c.from_residual.result c.from_residual.ensures.1 c.in_err-one_value.ensures)
