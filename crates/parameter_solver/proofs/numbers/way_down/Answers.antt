use Rattle.std.proofs.Common.{rules, ℤ, ◌-ℤ◌, ap, ◌∙◌, to_z-of_z}
use Rattle.std.specs.Int.{int_rem_euclid}
use mir.Syntax.{w128}
use mir.Val.{SFits}
use Rattle.parameter_solver.proofs.Nearness.{rem-rem}
use Rattle.parameter_solver.proofs.numbers.way_down.Goals as goal

pub returns-clause-exact : goal.returns-clause-exact
returns-clause-exact c =
    let k : SFits w128 c.args.k = c.ranges.k in
    let m : SFits w128 c.args.m = c.ranges.m in
    let r : SFits w128 c.args.r = c.ranges.r in
    let f : SFits w128 c.rem_euclid.result = search rules in
    let g : SFits w128 c.rem_euclid-2.result = search rules in
    let d : SFits w128 (c.rem_euclid.result -ℤ c.args.r) = search rules in
    let one = simp to_z-of_z at c.rem_euclid.ensures.value in
    let two = simp to_z-of_z at c.rem_euclid-2.ensures.value in
    rw to_z-of_z (two ∙ ap (λ (y : ℤ). int_rem_euclid (y -ℤ c.args.r) c.args.m) one ∙ rem-rem c.args.k c.args.r c.args.m c.requires.class.modulus.positive)
