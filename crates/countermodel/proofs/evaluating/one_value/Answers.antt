use Rattle.std.proofs.Common.{rules, to_z-of_z}
use mir.Syntax.{w128}
use mir.Val.{SFits}
use Rattle.base_budget.proofs.Charging.{work_just, work_ok}
use Rattle.model_trees.specs.Rows.{evaluated}
use Rattle.countermodel.proofs.evaluating.one_value.Goals as goal

pub returns : goal.returns
returns c =
    let v : SFits w128 c.in_ok-v.v = search rules in
    work_ok (evaluated c.args.e.now c.args.t.now) _ c.in_ok-v.ensures.work (work_just _ c.in_ok-alone.field-0 (simp to_z-of_z at c.in_ok-alone.ensures))
