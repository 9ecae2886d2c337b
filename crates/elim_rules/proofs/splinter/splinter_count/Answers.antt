use Rattle.std.proofs.Common.{rules, pos, neg_ℤ, ◌+ℤ◌, to_z-of_z}
use mir.Syntax.{w128}
use mir.Val.{SFits}
use Rattle.base_integers.specs.Floor.{IsFloor}
use Rattle.elim_rules.proofs.Counting.{counted, counted_range, sum_fits, negated_fits, negated_floor}
use Rattle.elim_rules.proofs.splinter.splinter_count.Goals as goal

pub returns-clause-exact : goal.returns-clause-exact
returns-clause-exact c =
    let a : SFits w128 c.args.a = c.ranges.a in
    let b : SFits w128 c.args.b = c.ranges.b in
    let n : SFits w128 (pos 0 +ℤ neg_ℤ c.args.b) = negated_fits c.args.b c.requires.b_in_range in
    let q : SFits w128 c.floor_div-below.result = search rules in
    let floor : IsFloor (neg_ℤ c.args.b) c.args.a c.floor_div-below.result = negated_floor c.args.a c.args.b c.floor_div-below.result (simp to_z-of_z at c.floor_div-below.ensures.floor) in
    let s : SFits w128 (c.args.b +ℤ c.floor_div-below.result) = sum_fits c.args.a c.args.b c.floor_div-below.result c.requires.a_positive c.requires.b_positive c.requires.b_in_range floor in
    counted c.args.a c.args.b c.floor_div-below.result c.unsigned_abs.result c.requires.a_positive floor (simp to_z-of_z at c.unsigned_abs.ensures.value)

pub returns-clause-range : goal.returns-clause-range
returns-clause-range c =
    let a : SFits w128 c.args.a = c.ranges.a in
    let b : SFits w128 c.args.b = c.ranges.b in
    let n : SFits w128 (pos 0 +ℤ neg_ℤ c.args.b) = negated_fits c.args.b c.requires.b_in_range in
    let q : SFits w128 c.floor_div-below.result = search rules in
    let floor : IsFloor (neg_ℤ c.args.b) c.args.a c.floor_div-below.result = negated_floor c.args.a c.args.b c.floor_div-below.result (simp to_z-of_z at c.floor_div-below.ensures.floor) in
    let s : SFits w128 (c.args.b +ℤ c.floor_div-below.result) = sum_fits c.args.a c.args.b c.floor_div-below.result c.requires.a_positive c.requires.b_positive c.requires.b_in_range floor in
    counted_range c.args.a c.args.b c.floor_div-below.result c.unsigned_abs.result c.requires.a_positive c.requires.b_positive c.requires.b_in_range floor (simp to_z-of_z at c.unsigned_abs.ensures.value)
