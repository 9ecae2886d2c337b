use Rattle.std.proofs.Common.{rules, to_z-of_z}
use mir.Syntax.{w128}
use mir.Val.{SFits}
use Rattle.linear_term.proofs.Small.{exact_sum}
use Rattle.linear_term.proofs.range.Place.small_value.Goals as goal

pub returns-then-is_small-4-clause-exact : goal.returns-then-is_small-4-clause-exact
returns-then-is_small-4-clause-exact c =
    let a : SFits w128 c.small_product.result = search rules in
    let b : SFits w128 c.small_product-then-is_small-4.result = search rules in
    let fits_m : SFits w128 c.args.self.now.m = search rules in
    let fits_a : SFits w128 c.args.self.now.a = search rules in
    let fits_n : SFits w128 c.args.self.now.n = search rules in
    let fits_b : SFits w128 c.args.self.now.b = search rules in
    exact_sum c.small_product.result c.small_product-then-is_small-4.result _ _ _ _ (to_z-of_z a) (to_z-of_z b)
    (simp to_z-of_z at c.small_product.ensures.exact) (simp to_z-of_z at c.small_product-then-is_small-4.ensures.exact) c.small_product.ensures.small c.small_product-then-is_small-4.ensures.small
