use Rattle.std.proofs.Common.{arith, refl, to_z-of_z}
use mir.Syntax.{w128}
use mir.Val.{SFits}
use Rattle.base_budget.proofs.Charging.{drop-item, drop_all, left_next, left_ends, work_err, work_just}
use Rattle.solve_values.proofs.values.valued_clauses.Goals as goal

pub returns-in_err-valued_clause : goal.returns-in_err-valued_clause
returns-in_err-valued_clause c =
    let v : SFits w128 c.args.v = c.ranges.v in
    let item = drop-item c.args.cs.now c.loop-c.c-index c.c-item.result (omega arith) c.c-item.is in
    let inv = rw item at c.loop-c.invariant in
    simp to_z-of_z at (left_ends inv (work_err _ _ c.from_residual.result c.from_residual.ensures.1 c.in_err-valued_clause.ensures))

pub loop-c-preserved : goal.loop-c-preserved
loop-c-preserved c =
    let item = drop-item c.args.cs.now c.loop-c.c-index c.c-item.result (omega arith) c.c-item.is in
    let inv = rw item at c.loop-c.invariant in
    rw c.in_ok-append.ensures (left_next _ _ inv c.in_ok-valued_clause.ensures)

pub returns : goal.returns
returns c =
    let v : SFits w128 c.args.v = c.ranges.v in
    let none = drop_all c.args.cs.now c.loop-c.c-index (omega arith) in
    let inv = rw none at c.loop-c.invariant in
    simp to_z-of_z at (left_ends inv (work_just _ c.loop-c.out refl))
