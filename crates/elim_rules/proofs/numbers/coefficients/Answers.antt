use Rattle.std.proofs.Common.{rules, to_z-of_z}
use mir.Syntax.{w128}
use mir.Val.{SFits}
use Rattle.elim_rules.proofs.Named.{bezout_found, gcd_divisor}
use Rattle.elim_rules.proofs.numbers.coefficients.Goals as goal

pub returns-clause-exact : goal.returns-clause-exact
returns-clause-exact c =
    let a : SFits w128 c.args.a = c.ranges.a in
    let b : SFits w128 c.args.b = c.ranges.b in
    let g : SFits w128 c.bezout-g.result.0 = search rules in
    let p : SFits w128 c.bezout-g.result.1 = search rules in
    let q : SFits w128 c.bezout-g.result.2 = search rules in
    simp to_z-of_z (bezout_found c.args.a c.args.b c.bezout-g.result.0 c.bezout-g.result.1 c.bezout-g.result.2 c.requires.a_positive c.requires.b_positive
    (simp to_z-of_z at c.bezout-g.ensures.divisor) (simp to_z-of_z at c.bezout-g.ensures.sum) (simp to_z-of_z at c.bezout-g.ensures.least))

pub returns-clause-divisor : goal.returns-clause-divisor
returns-clause-divisor c =
    let a : SFits w128 c.args.a = c.ranges.a in
    let b : SFits w128 c.args.b = c.ranges.b in
    let g : SFits w128 c.bezout-g.result.0 = search rules in
    simp to_z-of_z (gcd_divisor c.args.a c.args.b c.bezout-g.result.0 c.requires.a_positive c.requires.a_in_range c.requires.b_in_range (simp to_z-of_z at c.bezout-g.ensures.divisor))
