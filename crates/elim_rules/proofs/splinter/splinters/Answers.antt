use Rattle.std.proofs.Common.{arith, refl, to_z-of_z}
use mir.Syntax.{w128}
use mir.Val.{SFits}
use Rattle.base_budget.proofs.Charging.{drop-item, drop_all, work_err, work_just}
use Rattle.base_budget.proofs.Charging.{left_next, left_ends}
use Rattle.elim_rules.proofs.splinter.splinters.Goals as goal

pub loop-low-preserved : goal.loop-low-preserved
loop-low-preserved c =
    let a : SFits w128 c.args.a = c.ranges.a in
    let item = drop-item c.args.lows.now c.loop-low.low-index c.low-item.result (omega arith) c.low-item.is in
    let inv = rw item at (simp to_z-of_z at c.loop-low.invariant) in
    simp to_z-of_z (rw c.in_ok-append.ensures (left_next _ _ inv (simp to_z-of_z at c.in_ok-bounded.ensures)))

pub returns-in_err-bounded : goal.returns-in_err-bounded
returns-in_err-bounded c =
    let a : SFits w128 c.args.a = c.ranges.a in
    let item = drop-item c.args.lows.now c.loop-low.low-index c.low-item.result (omega arith) c.low-item.is in
    let inv = rw item at (simp to_z-of_z at c.loop-low.invariant) in
    left_ends inv (work_err _ _ c.from_residual.result c.from_residual.ensures.1 (simp to_z-of_z at c.in_err-bounded.ensures))

pub returns : goal.returns
returns c =
    let a : SFits w128 c.args.a = c.ranges.a in
    let none = drop_all c.args.lows.now c.loop-low.low-index (omega arith) in
    let inv = rw none at (simp to_z-of_z at c.loop-low.invariant) in
    left_ends inv (work_just _ _ refl)
