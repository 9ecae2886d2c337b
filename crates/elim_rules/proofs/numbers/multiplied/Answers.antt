use Rattle.std.proofs.Common.{◌*ℤ◌, refl, to_z-of_z}
use mir.Syntax.{w128}
use mir.Val.{SFits}
use Rattle.elim_rules.proofs.Products.{product_range, product_fits}
use Rattle.elim_rules.proofs.numbers.multiplied.Goals as goal

pub returns-clause-exact : goal.returns-clause-exact
returns-clause-exact c =
    let m : SFits w128 c.args.m = c.ranges.m in
    let a : SFits w128 c.args.a = c.ranges.a in
    let k : SFits w128 (c.args.m *ℤ c.args.a) = product_fits c.args.m c.args.a c.requires in
    simp to_z-of_z refl

pub returns-clause-range : goal.returns-clause-range
returns-clause-range c =
    let m : SFits w128 c.args.m = c.ranges.m in
    let a : SFits w128 c.args.a = c.ranges.a in
    let k : SFits w128 (c.args.m *ℤ c.args.a) = product_fits c.args.m c.args.a c.requires in
    simp to_z-of_z (product_range c.args.m c.args.a c.requires)
