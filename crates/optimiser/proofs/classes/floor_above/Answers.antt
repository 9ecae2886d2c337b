use Rattle.std.proofs.Common.{rules, ap, ◌∙◌, to_z-of_z}
use Rattle.std.specs.Prelude.{Bool, Option, ℤ}
use mir.Syntax.{w128}
use mir.Val.{SFits}
use Rattle.solve_laws.specs.Nearest.{is_at_most}
use Rattle.optimiser.specs.Floors.{floor_when}
use Rattle.optimiser.proofs.Residues.{above_failed, above_unmeasured, above_done}
use Rattle.optimiser.proofs.classes.floor_above.Goals as goal

pub returns-in_err-class-clause-work : goal.returns-in_err-class-clause-work
returns-in_err-class-clause-work c =
    let lo : SFits w128 c.args.lo = c.ranges.lo in
    above_failed c.args.j c.args.c.now c.args.lo _ c.from_residual.result c.in_err-class.ensures.work c.from_residual.ensures.1

pub returns-in_err-v-clause-work : goal.returns-in_err-v-clause-work
returns-in_err-v-clause-work c =
    let lo : SFits w128 c.args.lo = c.ranges.lo in
    let m : SFits w128 c.in_ok-class.class.0 = search rules in
    let r : SFits w128 c.in_ok-class.class.1 = search rules in
    above_unmeasured c.args.j c.args.c.now c.args.lo c.in_ok-class.class c.up_to_class.result _ c.from_residual-in_err-v.result c.in_ok-class.ensures.work (simp to_z-of_z at c.up_to_class.ensures)
    c.in_err-v.ensures.work c.from_residual-in_err-v.ensures.1

pub returns-clause-work : goal.returns-clause-work
returns-clause-work c =
    let lo : SFits w128 c.args.lo = c.ranges.lo in
    let m : SFits w128 c.in_ok-class.class.0 = search rules in
    let r : SFits w128 c.in_ok-class.class.1 = search rules in
    let v : SFits w128 c.in_ok-v.v = search rules in
    let most = simp to_z-of_z at c.is_at_most.ensures in
    let made = simp to_z-of_z at c.floor_when.ensures.exact in
    above_done c.args.j c.args.c.now c.args.lo c.in_ok-v.v c.in_ok-class.class c.up_to_class.result c.floor_when.result c.in_ok-class.ensures.work (simp to_z-of_z at c.up_to_class.ensures)
    c.in_ok-v.ensures.work
    (made ∙ ap (λ (b : Bool). floor_when b c.in_ok-v.v) (most ∙ ap (λ (o : Option ℤ). is_at_most c.in_ok-v.v o) c.upper.ensures.exact))
