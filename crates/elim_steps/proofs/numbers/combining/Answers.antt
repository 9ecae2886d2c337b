use Rattle.std.proofs.Common.{to_z-of_z}
use mir.Syntax.{w128}
use mir.Val.{SFits}
use Rattle.base_budget.proofs.Charging.{combining_ok, combining_err}
use Rattle.elim_steps.proofs.numbers.combining.Goals as goal

pub returns-in_err-combine : goal.returns-in_err-combine
returns-in_err-combine c =
    let m : SFits w128 c.args.m = c.ranges.m in
    let n : SFits w128 c.args.n = c.ranges.n in
    combining_err c.args.m c.args.n c.args.s.now c.args.t.now c.in_err-combine.field-0.0 c.from_residual.result c.from_residual.ensures.1 (simp to_z-of_z at c.in_err-combine.ensures.overflow)

pub returns : goal.returns
returns c =
    let m : SFits w128 c.args.m = c.ranges.m in
    let n : SFits w128 c.args.n = c.ranges.n in
    combining_ok c.args.m c.args.n c.args.s.now c.args.t.now c.in_ok-combine.field-0 (simp to_z-of_z at c.in_ok-combine.ensures.exact) (simp to_z-of_z at c.in_ok-combine.ensures.stays)
