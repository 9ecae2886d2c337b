use Rattle.std.proofs.Common.{rules, to_z-of_z}
use mir.Syntax.{w128}
use mir.Val.{SFits}
use Rattle.base_budget.proofs.Charging.{work_err, work_just, work_ok}
use Rattle.model_trees.specs.Rows.{all_evaluated, evaluated}
use Rattle.countermodel.proofs.rows.asked_value.Goals as goal

pub returns-in_err-value : goal.returns-in_err-value
returns-in_err-value c =
    work_ok (all_evaluated c.args.e.now c.args.ts.now) _ c.in_ok-at.ensures
    (work_err (evaluated c.args.e.now c.args.u.now) _ c.from_residual-in_err-value.result c.from_residual-in_err-value.ensures.1 c.in_err-value.ensures.work)

pub returns : goal.returns
returns c =
    let v : SFits w128 c.in_ok-value.value = search rules in
    work_ok (all_evaluated c.args.e.now c.args.ts.now) _ c.in_ok-at.ensures
    (work_ok (evaluated c.args.e.now c.args.u.now) _ c.in_ok-value.ensures.work (work_just _ c.in_ok-alone.field-0 (simp to_z-of_z at c.in_ok-alone.ensures)))
