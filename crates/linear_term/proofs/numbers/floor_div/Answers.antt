use Rattle.std.proofs.Common.{rules}
use Rattle.std.proofs.lemmas.Int.{to_z-of_z}
use mir.Syntax.{w128}
use mir.Val.{SFits}
use Rattle.base_integers.proofs.Floors.{floor-is}
use Rattle.linear_term.proofs.numbers.floor_div.Goals as goal

pub returns-clause-floor : goal.returns-clause-floor
returns-clause-floor c =
    let f : SFits w128 c.rounded_down.result = search rules in
    let a : SFits w128 c.args.a = c.ranges.a in
    let b : SFits w128 c.args.b = c.ranges.b in
    let is = simp to_z-of_z at c.rounded_down.ensures in
    rw (to_z-of_z, is) (floor-is _ _ c.requires.b_positive)
