use Rattle.std.proofs.Common.{arith}
use Rattle.base_budget.proofs.Charging.{drop-item, left_next, left_ends, work_err}
use Rattle.elim_rules.proofs.Steps.{append_divisors}
use Rattle.elim_rules.proofs.equation.all_solved.Goals as goal

pub returns-in_err-solved_or_kept-clause-work : goal.returns-in_err-solved_or_kept-clause-work
returns-in_err-solved_or_kept-clause-work c =
    let item = drop-item c.args.rest.now c.loop-l.l-index c.l-item.result (omega arith) c.l-item.is in
    let inv = rw item at c.loop-l.invariant.0 in
    left_ends inv (work_err _ _ c.from_residual.result c.from_residual.ensures.1 c.in_err-solved_or_kept.ensures.work)

pub loop-l-preserved : goal.loop-l-preserved
loop-l-preserved c =
    let item = drop-item c.args.rest.now c.loop-l.l-index c.l-item.result (omega arith) c.l-item.is in
    let inv = rw item at c.loop-l.invariant.0 in (
      rw c.in_ok-append.ensures (left_next _ _ inv c.in_ok-solved_or_kept.ensures.work),
      append_divisors _ _ _ c.in_ok-append.ensures c.loop-l.invariant.1 c.in_ok-solved_or_kept.ensures.divisors,
    )
