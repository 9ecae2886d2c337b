use Rattle.std.proofs.Common.{rules, to_z-of_z}
use Rattle.clause_set.proofs.Terms.{normal_passed}
use mir.Syntax.{w128}
use mir.Val.{SFits}
use Rattle.clause_set.proofs.bounds.turned.Goals as goal

pub of-requires : goal.of-requires
of-requires c =
    let f : SFits w128 c.args.constant = c.ranges.constant in
    let g : SFits w128 c.opposite_of.result = search rules in
    normal_passed _ _ _ c.requires.normal c.requires.opposite g (simp to_z-of_z at c.opposite_of.ensures)
