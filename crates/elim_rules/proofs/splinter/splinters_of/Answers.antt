use Rattle.std.proofs.Common.{arith, refl}
use Rattle.base_budget.proofs.Charging.{work_err, work_just}
use Rattle.base_budget.proofs.Charging.{left_next, left_ends}
use Rattle.elim_rules.proofs.Counting.{numbers_next, numbers_end}
use Rattle.elim_rules.proofs.splinter.splinters_of.Goals as goal

pub loop-i-preserved : goal.loop-i-preserved
loop-i-preserved c =
    let item = numbers_next c.loop-i.i c.args.count c.loop-i-test.true in
    let inv = rw item at c.loop-i.invariant.0 in
    (rw c.in_ok-append.ensures (left_next _ _ inv c.in_ok-splinter.ensures), let lt = c.loop-i-test.true in omega arith)

pub returns-in_err-splinter : goal.returns-in_err-splinter
returns-in_err-splinter c =
    let item = numbers_next c.loop-i.i c.args.count c.loop-i-test.true in
    let inv = rw item at c.loop-i.invariant.0 in
    left_ends inv (work_err _ _ c.from_residual.result c.from_residual.ensures.1 c.in_err-splinter.ensures)

pub returns : goal.returns
returns c =
    let none = numbers_end c.loop-i.i c.args.count c.loop-i-test.false in
    let inv = rw none at c.loop-i.invariant.0 in
    left_ends inv (work_just _ _ refl)
