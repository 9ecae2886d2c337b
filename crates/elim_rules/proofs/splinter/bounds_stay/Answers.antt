use Rattle.std.proofs.Common.{rules, to_z-of_z}
use mir.Syntax.{w128}
use mir.Val.{SFits}
use Rattle.elim_rules.proofs.Counting.{first_leaves, second_leaves, third_leaves, all_fine}
use Rattle.elim_rules.proofs.splinter.bounds_stay.Goals as goal

pub returns-in_err-whole : goal.returns-in_err-whole
returns-in_err-whole c =
    let a : SFits w128 c.args.a = c.ranges.a in
    let b : SFits w128 c.args.b = c.ranges.b in
    first_leaves c.args.a c.args.b c.in_err-whole.field-0.0 c.from_residual.result (simp to_z-of_z at c.in_err-whole.ensures.overflow) c.from_residual.ensures.1

pub returns-in_err-less : goal.returns-in_err-less
returns-in_err-less c =
    let a : SFits w128 c.args.a = c.ranges.a in
    let b : SFits w128 c.args.b = c.ranges.b in
    let w : SFits w128 c.in_ok-whole.whole = search rules in
    second_leaves c.args.a c.args.b c.in_ok-whole.whole c.in_err-less.field-0.0 c.from_residual-in_err-less.result (simp to_z-of_z at c.in_ok-whole.ensures.exact) (simp to_z-of_z at c.in_err-less.ensures.overflow)
    c.from_residual-in_err-less.ensures.1

pub returns-in_err-value : goal.returns-in_err-value
returns-in_err-value c =
    let a : SFits w128 c.args.a = c.ranges.a in
    let b : SFits w128 c.args.b = c.ranges.b in
    let w : SFits w128 c.in_ok-whole.whole = search rules in
    let l : SFits w128 c.in_ok-less.less = search rules in
    third_leaves c.args.a c.args.b c.in_ok-whole.whole c.in_ok-less.less c.in_err-value.field-0.0 c.from_residual-in_err-value.result (simp to_z-of_z at c.in_ok-whole.ensures.exact)
    (simp to_z-of_z at c.in_ok-less.ensures.exact) (simp to_z-of_z at c.in_err-value.ensures.overflow) c.from_residual-in_err-value.ensures.1

pub returns : goal.returns
returns c =
    let a : SFits w128 c.args.a = c.ranges.a in
    let b : SFits w128 c.args.b = c.ranges.b in
    let w : SFits w128 c.in_ok-whole.whole = search rules in
    let l : SFits w128 c.in_ok-less.less = search rules in
    all_fine c.args.a c.args.b c.in_ok-whole.whole c.in_ok-less.less (simp to_z-of_z at c.in_ok-whole.ensures.exact) (simp to_z-of_z at c.in_ok-less.ensures.exact)
    (simp to_z-of_z at c.in_ok-whole.ensures.stays) (simp to_z-of_z at c.in_ok-less.ensures.stays) (simp to_z-of_z at c.in_ok-value.ensures.stays)
