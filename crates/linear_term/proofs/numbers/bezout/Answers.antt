use Rattle.std.proofs.Common.{◌<◌, ◌^◌, pos, ◌+ℤ◌, neg_ℤ, arith}
use Rattle.std.proofs.lemmas.Int.{to_z-of_z, to_z_pos, ints}
use lib.IntN.{+ℤ_idl}
use mir.Syntax.{w128}
use mir.Val.{SFits}
use Rattle.base_integers.proofs.Divisor.{gcd-only}
use Rattle.linear_term.proofs.Euclid.{gcd_of_sizes, IsGcd-from_crosses, cross_small, positive_size, cross_sum, cross_least}
use Rattle.linear_term.proofs.numbers.bezout.Goals as goal

pub returns-then-cross-eq0-clause-divisor : goal.returns-then-cross-eq0-clause-divisor
returns-then-cross-eq0-clause-divisor c =
    let a : SFits w128 c.args.a = c.ranges.a in
    let b : SFits w128 c.args.b = c.ranges.b in
    let x = simp to_z-of_z at c.unsigned_abs.ensures.value in
    let y = simp to_z-of_z at c.unsigned_abs-2.ensures.value in
    let same = c.cross_sizes-cross.ensures.at_zero c.if-cross-eq0.true in
    let small : c.cross_sizes-cross.result.g < 2 ^ 127 = omega (arith, ints, x, y, same, c.requires.b_positive) in
    rw (to_z_pos w128 c.cross_sizes-cross.result.g small)
    (gcd-only c.args.a c.args.b _ (gcd_of_sizes _ _ _ _ _ x y (IsGcd-from_crosses _ _ _ c.cross_sizes-cross.ensures)))

pub returns-clause-divisor : goal.returns-clause-divisor
returns-clause-divisor c =
    let a : SFits w128 c.args.a = c.ranges.a in
    let b : SFits w128 c.args.b = c.ranges.b in
    let x = simp to_z-of_z at c.unsigned_abs.ensures.value in
    let y = simp to_z-of_z at c.unsigned_abs-2.ensures.value in
    let first : c.unsigned_abs.result < 2 ^ 127 = omega (arith, ints, x, c.requires.a_positive) in
    let second : c.unsigned_abs-2.result < 2 ^ 127 = omega (arith, ints, y, c.requires.b_positive) in
    let small = cross_small _ _ (2 ^ 127) _ c.cross_sizes-cross.ensures (omega arith) first second in
    rw (to_z_pos w128 c.cross_sizes-cross.result.g small.0)
    (gcd-only c.args.a c.args.b _ (gcd_of_sizes _ _ _ _ _ x y (IsGcd-from_crosses _ _ _ c.cross_sizes-cross.ensures)))

pub returns-clause-sum : goal.returns-clause-sum
returns-clause-sum c =
    let a : SFits w128 c.args.a = c.ranges.a in
    let b : SFits w128 c.args.b = c.ranges.b in
    let x = simp to_z-of_z at c.unsigned_abs.ensures.value in
    let y = simp to_z-of_z at c.unsigned_abs-2.ensures.value in
    let first : c.unsigned_abs.result < 2 ^ 127 = omega (arith, ints, x, c.requires.a_positive) in
    let second : c.unsigned_abs-2.result < 2 ^ 127 = omega (arith, ints, y, c.requires.b_positive) in
    let some : 0 < c.cross_sizes-cross.result.p = omega arith in
    let small = cross_small _ _ (2 ^ 127) _ c.cross_sizes-cross.ensures some first second in
    let is = cross_sum c.args.a c.args.b _ _ _ (positive_size _ _ c.requires.a_positive x) (positive_size _ _ c.requires.b_positive y) c.cross_sizes-cross.ensures some in
    let turned : SFits w128 (pos 0 +ℤ neg_ℤ (pos c.cross_sizes-cross.result.n)) = omega (arith, ints, small.2) in
    rw (
      to_z_pos w128 c.cross_sizes-cross.result.g small.0,
      to_z_pos w128 c.cross_sizes-cross.result.p small.1,
      to_z_pos w128 c.cross_sizes-cross.result.n small.2,
      to_z-of_z w128 (pos 0 +ℤ neg_ℤ (pos c.cross_sizes-cross.result.n)) turned,
      +ℤ_idl (neg_ℤ (pos c.cross_sizes-cross.result.n)),
    )
    is

pub returns-clause-least : goal.returns-clause-least
returns-clause-least c =
    let a : SFits w128 c.args.a = c.ranges.a in
    let b : SFits w128 c.args.b = c.ranges.b in
    let x = simp to_z-of_z at c.unsigned_abs.ensures.value in
    let y = simp to_z-of_z at c.unsigned_abs-2.ensures.value in
    let first : c.unsigned_abs.result < 2 ^ 127 = omega (arith, ints, x, c.requires.a_positive) in
    let second : c.unsigned_abs-2.result < 2 ^ 127 = omega (arith, ints, y, c.requires.b_positive) in
    let small = cross_small _ _ (2 ^ 127) _ c.cross_sizes-cross.ensures (omega arith) first second in
    rw (to_z_pos w128 c.cross_sizes-cross.result.g small.0, to_z_pos w128 c.cross_sizes-cross.result.p small.1)
    (cross_least c.args.b _ _ _ (positive_size _ _ c.requires.b_positive y) c.cross_sizes-cross.ensures)
