use Rattle.std.proofs.Common.{to_z-of_z}
use mir.Syntax.{w128}
use mir.Val.{SFits}
use Rattle.model_formulas.proofs.Matching.{equals_told}
use Rattle.model_formulas.proofs.atoms.equals.Goals as goal

pub returns : goal.returns
returns c =
    let k : SFits w128 c.args.n = c.ranges.n in
    equals_told _ c.args.t.now _ c.args.n (simp to_z-of_z at c.in_ok-difference.ensures) c.equation.ensures
