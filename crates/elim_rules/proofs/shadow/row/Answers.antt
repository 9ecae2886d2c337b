use Rattle.std.proofs.Common.{arith}
use Rattle.base_budget.proofs.Charging.{drop-item}
use Rattle.base_budget.proofs.Charging.{work_err}
use Rattle.base_budget.proofs.Charging.{left_next, left_ends}
use Rattle.elim_rules.proofs.shadow.row.Goals as goal

pub loop-up-preserved : goal.loop-up-preserved
loop-up-preserved c =
    let item = drop-item c.args.ups.now c.loop-up.up-index c.up-item.result (omega arith) c.up-item.is in
    let inv = rw item at c.loop-up.invariant in
    rw c.in_ok-append.ensures (left_next _ _ inv c.in_ok-pair.ensures)

pub returns-in_err-pair : goal.returns-in_err-pair
returns-in_err-pair c =
    let item = drop-item c.args.ups.now c.loop-up.up-index c.up-item.result (omega arith) c.up-item.is in
    let inv = rw item at c.loop-up.invariant in
    left_ends inv (work_err _ _ c.from_residual.result c.from_residual.ensures.1 c.in_err-pair.ensures)
