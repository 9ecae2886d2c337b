use Rattle.std.proofs.Common.{arith}
use Rattle.base_budget.proofs.Charging.{drop-item}
use Rattle.base_budget.proofs.Charging.{work_err}
use Rattle.base_budget.proofs.Charging.{left_next, left_ends}
use Rattle.elim_rules.proofs.shadow.shadows.Goals as goal

pub loop-low-preserved : goal.loop-low-preserved
loop-low-preserved c =
    let item = drop-item c.args.lows.now c.loop-low.low-index c.low-item.result (omega arith) c.low-item.is in
    let inv = rw item at c.loop-low.invariant in
    rw c.in_ok-append.ensures (left_next _ _ inv c.in_ok-row.ensures)

pub returns-in_err-row : goal.returns-in_err-row
returns-in_err-row c =
    let item = drop-item c.args.lows.now c.loop-low.low-index c.low-item.result (omega arith) c.low-item.is in
    let inv = rw item at c.loop-low.invariant in
    left_ends inv (work_err _ _ c.from_residual.result c.from_residual.ensures.1 c.in_err-row.ensures)
