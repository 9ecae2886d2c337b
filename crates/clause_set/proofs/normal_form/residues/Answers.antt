use Rattle.std.proofs.Common.{to_z-of_z}
use Rattle.clause_set.proofs.Quotients.{residues_done}
use mir.Syntax.{w128}
use mir.Val.{SFits}
use Rattle.clause_set.proofs.normal_form.residues.Goals as goal

pub returns : goal.returns
returns c =
    let f : SFits w128 c.args.d = c.ranges.d in
    residues_done c.args.d _ _ _ c.loop-pair-test.false (simp to_z-of_z at c.loop-pair.invariant)
