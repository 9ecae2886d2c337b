use Rattle.std.proofs.Common.{to_z-of_z}
use mir.Syntax.{w128}
use mir.Val.{SFits}
use Rattle.base_budget.proofs.Charging.{work_ok, work_err, work_just}
use Rattle.solve_values.proofs.values.valued_clause.Goals as goal

pub returns-in_err-literals : goal.returns-in_err-literals
returns-in_err-literals c =
    let v : SFits w128 c.args.v = c.ranges.v in
    work_err _ _ c.from_residual.result c.from_residual.ensures.1 (rw c.literals.ensures at (simp to_z-of_z at c.in_err-literals.ensures.work))

pub returns : goal.returns
returns c =
    let v : SFits w128 c.args.v = c.ranges.v in
    work_ok _ _ (rw c.literals.ensures at (simp to_z-of_z at c.in_ok-literals.ensures.work)) (work_just _ _ c.in_ok-in_form.ensures)
