use Rattle.std.proofs.Common.{rules, to_z-of_z}
use mir.Syntax.{w128}
use mir.Val.{SFits}
use Rattle.elim_rules.specs.Answers.{bezout_of}
use Rattle.elim_rules.proofs.Merging.{pair, joint_work, joint_product, left_positive, right_positive, joint_bezout}
use Rattle.elim_rules.proofs.merge.joint_coefficients.Goals as goal

pub coefficients-requires-clause-a_positive : goal.coefficients-requires-clause-a_positive
coefficients-requires-clause-a_positive c =
    let a1 : SFits w128 c.coef-a1.result = search rules in
    let d2 : SFits w128 c.divisor-d2.result = search rules in
    let n : SFits w128 c.multiplied.result = search rules in
    let h = pair c.args.x c.args.l.now c.args.m.now c.term.result.now c.term-2.result.now c.coef-a1.result c.divisor-d1.result c.coef-a2.result c.divisor-d2.result
    c.term.ensures c.term-2.ensures c.coef-a1.ensures.exact c.coef-a2.ensures.exact c.divisor-d1.ensures c.divisor-d2.ensures in
    simp to_z-of_z (left_positive c.args.x c.args.l.now c.args.m.now _ _ _ _ c.multiplied.result h c.requires.first c.requires.second (simp to_z-of_z at c.multiplied.ensures.exact))

pub coefficients-requires-clause-b_positive : goal.coefficients-requires-clause-b_positive
coefficients-requires-clause-b_positive c =
    let a2 : SFits w128 c.coef-a2.result = search rules in
    let d1 : SFits w128 c.divisor-d1.result = search rules in
    let n : SFits w128 c.multiplied-2.result = search rules in
    let h = pair c.args.x c.args.l.now c.args.m.now c.term.result.now c.term-2.result.now c.coef-a1.result c.divisor-d1.result c.coef-a2.result c.divisor-d2.result
    c.term.ensures c.term-2.ensures c.coef-a1.ensures.exact c.coef-a2.ensures.exact c.divisor-d1.ensures c.divisor-d2.ensures in
    simp to_z-of_z (right_positive c.args.x c.args.l.now c.args.m.now _ _ _ _ c.multiplied-2.result h c.requires.first c.requires.second (simp to_z-of_z at c.multiplied-2.ensures.exact))

pub returns-clause-product : goal.returns-clause-product
returns-clause-product c =
    let d1 : SFits w128 c.divisor-d1.result = search rules in
    let d2 : SFits w128 c.divisor-d2.result = search rules in
    let h = pair c.args.x c.args.l.now c.args.m.now c.term.result.now c.term-2.result.now c.coef-a1.result c.divisor-d1.result c.coef-a2.result c.divisor-d2.result
    c.term.ensures c.term-2.ensures c.coef-a1.ensures.exact c.coef-a2.ensures.exact c.divisor-d1.ensures c.divisor-d2.ensures in
    joint_product c.args.x c.args.l.now c.args.m.now _ _ _ _ c.times.result c.times-2.result c.times-3.result h (simp to_z-of_z at c.times-3.ensures) c.in_ok-computing.ensures.stay

pub returns-clause-stays : goal.returns-clause-stays
returns-clause-stays c =
    let a1 : SFits w128 c.coef-a1.result = search rules in
    let a2 : SFits w128 c.coef-a2.result = search rules in
    let d1 : SFits w128 c.divisor-d1.result = search rules in
    let d2 : SFits w128 c.divisor-d2.result = search rules in
    let h = pair c.args.x c.args.l.now c.args.m.now c.term.result.now c.term-2.result.now c.coef-a1.result c.divisor-d1.result c.coef-a2.result c.divisor-d2.result
    c.term.ensures c.term-2.ensures c.coef-a1.ensures.exact c.coef-a2.ensures.exact c.divisor-d1.ensures c.divisor-d2.ensures in
    joint_work c.args.x c.args.l.now c.args.m.now _ _ _ _ c.times.result c.times-2.result c.times-3.result h (simp to_z-of_z at c.times.ensures) (simp to_z-of_z at c.times-2.ensures)
    (simp to_z-of_z at c.times-3.ensures) c.in_ok-computing.ensures.stay

pub returns-clause-exact : goal.returns-clause-exact
returns-clause-exact c =
    let a1 : SFits w128 c.coef-a1.result = search rules in
    let a2 : SFits w128 c.coef-a2.result = search rules in
    let d1 : SFits w128 c.divisor-d1.result = search rules in
    let d2 : SFits w128 c.divisor-d2.result = search rules in
    let n : SFits w128 c.multiplied.result = search rules in
    let k : SFits w128 c.multiplied-2.result = search rules in
    let h = pair c.args.x c.args.l.now c.args.m.now c.term.result.now c.term-2.result.now c.coef-a1.result c.divisor-d1.result c.coef-a2.result c.divisor-d2.result
    c.term.ensures c.term-2.ensures c.coef-a1.ensures.exact c.coef-a2.ensures.exact c.divisor-d1.ensures c.divisor-d2.ensures in
    joint_bezout c.args.x c.args.l.now c.args.m.now _ _ _ _ c.multiplied.result c.multiplied-2.result (bezout_of c.coefficients.result) h (simp to_z-of_z at c.multiplied.ensures.exact)
    (simp to_z-of_z at c.multiplied-2.ensures.exact) (simp to_z-of_z at c.coefficients.ensures.exact)
