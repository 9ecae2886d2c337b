use Rattle.std.proofs.Common.{rules, to_z-of_z}
use mir.Syntax.{w128}
use mir.Val.{SFits}
use Rattle.function_encoding.proofs.Multiples.{multiple_made}
use Rattle.function_encoding.proofs.atoms.times.Goals as goal

pub returns : goal.returns
returns c =
    let f : SFits w128 c.constant.result = search rules in
    multiple_made _ _ c.args.t.now _ _ c.constant.ensures.exact c.number.ensures (simp to_z-of_z at c.combine.ensures.exact) (simp to_z-of_z at c.combine.ensures.stays) (simp to_z-of_z at c.combine.ensures.overflow)
