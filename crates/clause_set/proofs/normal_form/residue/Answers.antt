use Rattle.std.proofs.Common.{rules, to_z-of_z, ◌∙◌, ap}
use Rattle.clause_set.specs.Normal.{residue, residues}
use Rattle.clause_set.proofs.Terms.{passed}
use Rattle.clause_set.proofs.Quotients.{normal-residue}
use mir.Syntax.{w128}
use mir.Val.{SFits}
use Rattle.clause_set.proofs.normal_form.residue.Goals as goal

pub of-requires : goal.of-requires
of-requires c =
    let g : SFits w128 c.args.d = c.ranges.d in
    let k : SFits w128 c.constant.result = search rules in
    let f : SFits w128 c.remainder-constant.result = search rules in
    passed (residue c.args.d c.args.t) _ _ (normal-residue _ _ c.requires c.know_normal.ensures)
    (c.as_slice.ensures.value ∙ (simp to_z-of_z at c.in_ok-pairs.ensures) ∙ ap (residues c.args.d) c.pairs-2.ensures)
    (rw c.constant.ensures.exact at (simp to_z-of_z at c.remainder-constant.ensures)) f
