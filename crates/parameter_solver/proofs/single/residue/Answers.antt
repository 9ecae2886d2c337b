use Rattle.std.proofs.Common.{rules, neg_ℤ, ap, ◌∙◌, to_z-of_z}
use Rattle.std.specs.Int.{int_rem_euclid}
use mir.Syntax.{w128}
use mir.Val.{SFits}
use Rattle.parameter_solver.proofs.Rests.{cofactor_found, residue_done, residue_failed, residue_class}
use Rattle.parameter_solver.proofs.single.residue.Goals as goal

pub returns-in_err-product-clause-work : goal.returns-in_err-product-clause-work
returns-in_err-product-clause-work c =
    let b : SFits w128 c.args.b = c.ranges.b in
    let d : SFits w128 c.args.d = c.ranges.d in
    let k : SFits w128 c.args.k = c.ranges.k in
    let g : SFits w128 c.bezout-cofactors.result.0 = search rules in
    let u : SFits w128 c.bezout-cofactors.result.1 = search rules in
    let w : SFits w128 c.bezout-cofactors.result.2 = search rules in
    let found = cofactor_found c.args.b c.args.d c.bezout-cofactors.result.0 c.bezout-cofactors.result.1 c.bezout-cofactors.result.2 c.requires.positive c.requires.divisor.positive
    (simp to_z-of_z at c.bezout-cofactors.ensures.divisor) (simp to_z-of_z at c.bezout-cofactors.ensures.sum) (simp to_z-of_z at c.bezout-cofactors.ensures.least) in
    residue_failed c.args.b c.args.d c.args.k c.bezout-cofactors.result.1 c.in_err-product.field-0.0 c.from_residual.result found c.from_residual.ensures.1 (simp to_z-of_z at c.in_err-product.ensures.overflow)

pub returns-clause-work : goal.returns-clause-work
returns-clause-work c =
    let b : SFits w128 c.args.b = c.ranges.b in
    let d : SFits w128 c.args.d = c.ranges.d in
    let k : SFits w128 c.args.k = c.ranges.k in
    let g : SFits w128 c.bezout-cofactors.result.0 = search rules in
    let u : SFits w128 c.bezout-cofactors.result.1 = search rules in
    let w : SFits w128 c.bezout-cofactors.result.2 = search rules in
    let m : SFits w128 c.in_ok-product.product = search rules in
    let r : SFits w128 c.rem_euclid.result = search rules in
    let o : SFits w128 c.opposite.result = search rules in
    let found = cofactor_found c.args.b c.args.d c.bezout-cofactors.result.0 c.bezout-cofactors.result.1 c.bezout-cofactors.result.2 c.requires.positive c.requires.divisor.positive
    (simp to_z-of_z at c.bezout-cofactors.ensures.divisor) (simp to_z-of_z at c.bezout-cofactors.ensures.sum) (simp to_z-of_z at c.bezout-cofactors.ensures.least) in
    simp to_z-of_z (residue_done c.args.b c.args.d c.args.k c.bezout-cofactors.result.1 c.in_ok-product.product c.rem_euclid.result found
    (simp to_z-of_z at c.in_ok-product.ensures.exact) (simp to_z-of_z at c.in_ok-product.ensures.stays) (simp to_z-of_z at c.rem_euclid.ensures.value ∙ ap (λ z. int_rem_euclid z c.args.d) (simp to_z-of_z at c.opposite.ensures.exact)))

pub returns-clause-class : goal.returns-clause-class
returns-clause-class c =
    let d : SFits w128 c.args.d = c.ranges.d in
    let m : SFits w128 c.in_ok-product.product = search rules in
    let r : SFits w128 c.rem_euclid.result = search rules in
    let o : SFits w128 c.opposite.result = search rules in
    simp to_z-of_z (residue_class c.args.d (neg_ℤ c.in_ok-product.product) c.rem_euclid.result c.requires.divisor (simp to_z-of_z at c.rem_euclid.ensures.value ∙ ap (λ z. int_rem_euclid z c.args.d) (simp to_z-of_z at c.opposite.ensures.exact)))
