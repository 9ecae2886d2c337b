use Rattle.std.proofs.Common.{rules, ℤ, Bool, List, ◌++◌, ap, ◌∙◌, to_z-of_z}
use mir.Syntax.{w128}
use mir.Val.{SFits}
use Rattle.base_budget.proofs.Charging.{work_err, work_ok, work_just}
use Rattle.solve_laws.specs.Nearest.{when, is_at_most}
use Rattle.solve_laws.specs.Candidates.{computed, up_from, down_from}
use Rattle.parameter_solver.proofs.numbers.two_between.Goals as goal

pub returns-in_err-up : goal.returns-in_err-up
returns-in_err-up c =
    let m : SFits w128 c.args.m = c.ranges.m in
    let r : SFits w128 c.args.r = c.ranges.r in
    let up = simp to_z-of_z at c.up_from.ensures in
    work_err (computed (up_from c.args.m c.args.r c.args.lo)) _ c.from_residual.result c.from_residual.ensures.1 (rw up at c.in_err-up.ensures)

pub returns-in_err-down : goal.returns-in_err-down
returns-in_err-down c =
    let m : SFits w128 c.args.m = c.ranges.m in
    let r : SFits w128 c.args.r = c.ranges.r in
    let up = simp to_z-of_z at c.up_from.ensures in
    let down = simp to_z-of_z at c.down_from.ensures in
    work_ok (computed (up_from c.args.m c.args.r c.args.lo)) _ (rw up at c.in_ok-up.ensures)
    (work_err (computed (down_from c.args.m c.args.r c.args.hi)) _ c.from_residual-in_err-down.result c.from_residual-in_err-down.ensures.1 (rw down at c.in_err-down.ensures))

pub returns : goal.returns
returns c =
    let m : SFits w128 c.args.m = c.ranges.m in
    let r : SFits w128 c.args.r = c.ranges.r in
    let f : SFits w128 c.in_ok-up.up = search rules in
    let g : SFits w128 c.in_ok-down.down = search rules in
    let up = simp to_z-of_z at c.up_from.ensures in
    let down = simp to_z-of_z at c.down_from.ensures in
    let one = simp to_z-of_z at c.in_ok-push_when.ensures in
    let two = simp to_z-of_z at c.in_ok-push_when-2.ensures in
    let most = simp to_z-of_z at c.is_at_most.ensures in
    let least = simp to_z-of_z at c.is_at_least.ensures in
    let begun = c.new-out.ensures in
    work_ok (computed (up_from c.args.m c.args.r c.args.lo)) _ (rw up at c.in_ok-up.ensures)
    (work_ok (computed (down_from c.args.m c.args.r c.args.hi)) _ (rw down at c.in_ok-down.ensures) (work_just _ _ (two ∙ ap (λ (vs : List ℤ). vs ++ when c.is_at_least.result c.in_ok-down.down) (one ∙ ap (λ (vs : List ℤ). vs ++ when c.is_at_most.result c.in_ok-up.up) begun ∙ ap (λ (b : Bool). when b c.in_ok-up.up) most) ∙ ap (λ (b : Bool). (when (is_at_most c.in_ok-up.up c.args.hi) c.in_ok-up.up) ++ when b c.in_ok-down.down) least)))
