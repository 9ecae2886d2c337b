use Rattle.std.proofs.Common.{rules, to_z-of_z}
use mir.Syntax.{w128}
use mir.Val.{SFits}
use Rattle.elim_rules.proofs.Counting.{bound_failed, bound_done}
use Rattle.elim_rules.proofs.splinter.bounded.Goals as goal

pub returns-in_err-bounds_stay : goal.returns-in_err-bounds_stay
returns-in_err-bounds_stay c =
    let a : SFits w128 c.args.a = c.ranges.a in
    let b : SFits w128 c.factor-b.result = search rules in
    bound_failed c.args.x c.args.c.now c.args.low.now c.args.a c.factor-b.result c.in_err-bounds_stay.field-0.0 c.from_residual.result c.factor-b.ensures.exact (simp to_z-of_z at c.in_err-bounds_stay.ensures) c.from_residual.ensures.1

pub returns : goal.returns
returns c =
    let a : SFits w128 c.args.a = c.ranges.a in
    let b : SFits w128 c.factor-b.result = search rules in
    bound_done c.args.x c.args.c.now c.args.low.now c.args.a c.factor-b.result c.splinter_count.result c.splinters_of.result c.factor-b.ensures.exact (simp to_z-of_z at c.splinter_count.ensures.exact) (simp to_z-of_z at c.in_ok-bounds_stay.ensures)
    c.splinters_of.ensures
