use Rattle.std.proofs.Common.{arith, refl, to_z-of_z}
use mir.Syntax.{w128}
use mir.Val.{SFits}
use Rattle.base_budget.proofs.Charging.{drop-item, drop_all, left_next, left_ends, work_err, work_just}
use Rattle.elim_rules.proofs.Steps.{append_divisors}
use Rattle.solve_values.proofs.values.all_valued.Goals as goal

pub returns-in_err-valued-clause-work : goal.returns-in_err-valued-clause-work
returns-in_err-valued-clause-work c =
    let v : SFits w128 c.args.v = c.ranges.v in
    let item = drop-item c.args.ls.now c.loop-l.l-index c.l-item.result (omega arith) c.l-item.is in
    let inv = rw item at c.loop-l.invariant.work in
    simp to_z-of_z at (left_ends inv (work_err _ _ c.from_residual.result c.from_residual.ensures.1 c.in_err-valued.ensures.work))

pub loop-l-preserved : goal.loop-l-preserved
loop-l-preserved c =
    let item = drop-item c.args.ls.now c.loop-l.l-index c.l-item.result (omega arith) c.l-item.is in
    let inv = rw item at c.loop-l.invariant.work in
    record {
      work = rw c.in_ok-append.ensures (left_next _ _ inv c.in_ok-valued.ensures.work);
      divisors = append_divisors _ _ _ c.in_ok-append.ensures c.loop-l.invariant.divisors c.in_ok-valued.ensures.divisors;
    }

pub returns-clause-work : goal.returns-clause-work
returns-clause-work c =
    let v : SFits w128 c.args.v = c.ranges.v in
    let none = drop_all c.args.ls.now c.loop-l.l-index (omega arith) in
    let inv = rw none at c.loop-l.invariant.work in
    simp to_z-of_z at (left_ends inv (work_just _ c.loop-l.out refl))
