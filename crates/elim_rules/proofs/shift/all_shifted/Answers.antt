use Rattle.std.proofs.Common.{arith}
use Rattle.base_budget.proofs.Charging.{drop-item, left_next, left_ends, work_err}
use Rattle.elim_rules.proofs.Steps.{append_divisors}
use Rattle.elim_rules.proofs.shift.all_shifted.Goals as goal

pub returns-in_err-shifted-clause-work : goal.returns-in_err-shifted-clause-work
returns-in_err-shifted-clause-work c =
    let item = drop-item c.args.rest.now c.loop-m.m-index c.m-item.result (omega arith) c.m-item.is in
    let inv = rw item at c.loop-m.invariant.0 in
    left_ends inv (work_err _ _ c.from_residual.result c.from_residual.ensures.1 c.in_err-shifted.ensures.work)

pub loop-m-preserved : goal.loop-m-preserved
loop-m-preserved c =
    let item = drop-item c.args.rest.now c.loop-m.m-index c.m-item.result (omega arith) c.m-item.is in
    let inv = rw item at c.loop-m.invariant.0 in (
      rw c.in_ok-append.ensures (left_next _ _ inv c.in_ok-shifted.ensures.work),
      append_divisors _ _ _ c.in_ok-append.ensures c.loop-m.invariant.1 c.in_ok-shifted.ensures.divisors,
    )
