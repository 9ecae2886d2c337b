use Rattle.std.proofs.Common.{◌<◌, ◌^◌, arith}
use Rattle.std.proofs.lemmas.Int.{to_z-of_z, to_z_pos, ints}
use mir.Syntax.{w128}
use mir.Val.{SFits}
use Rattle.base_integers.proofs.Divisor.{gcd-only}
use Rattle.linear_term.proofs.Euclid.{gcd_small, gcd_of_sizes}
use Rattle.linear_term.proofs.numbers.gcd.Goals as goal

pub overflow_cast-result : goal.overflow_cast-result
overflow_cast-result c =
    let a : SFits w128 c.args.a = c.ranges.a in
    let b : SFits w128 c.args.b = c.ranges.b in
    let x = simp to_z-of_z at c.unsigned_abs.ensures.value in
    let y = simp to_z-of_z at c.unsigned_abs-2.ensures.value in
    let small : c.greatest_divisor.result < 2 ^ 127 = gcd_small c.args.a c.args.b _ _ _ x y c.greatest_divisor.ensures c.requires.a_in_range c.requires.b_in_range in
    omega (arith, ints)

pub returns-clause-exact : goal.returns-clause-exact
returns-clause-exact c =
    let a : SFits w128 c.args.a = c.ranges.a in
    let b : SFits w128 c.args.b = c.ranges.b in
    let x = simp to_z-of_z at c.unsigned_abs.ensures.value in
    let y = simp to_z-of_z at c.unsigned_abs-2.ensures.value in
    let small : c.greatest_divisor.result < 2 ^ 127 = gcd_small c.args.a c.args.b _ _ _ x y c.greatest_divisor.ensures c.requires.a_in_range c.requires.b_in_range in
    rw (to_z_pos w128 c.greatest_divisor.result small) (gcd-only c.args.a c.args.b _ (gcd_of_sizes _ _ _ _ _ x y c.greatest_divisor.ensures))

pub returns-clause-range : goal.returns-clause-range
returns-clause-range c =
    let a : SFits w128 c.args.a = c.ranges.a in
    let b : SFits w128 c.args.b = c.ranges.b in
    let x = simp to_z-of_z at c.unsigned_abs.ensures.value in
    let y = simp to_z-of_z at c.unsigned_abs-2.ensures.value in
    let small : c.greatest_divisor.result < 2 ^ 127 = gcd_small c.args.a c.args.b _ _ _ x y c.greatest_divisor.ensures c.requires.a_in_range c.requires.b_in_range in
    rw (to_z_pos w128 c.greatest_divisor.result small) small
