use Rattle.std.proofs.Common.{rules, to_z-of_z, ◌∙◌, ap}
use Rattle.clause_proof.specs.Atoms.{divided, quotient}
use Rattle.clause_checker.proofs.Quotients.{passed, normal-quotient}
use mir.Syntax.{w128}
use mir.Val.{SFits}
use Rattle.clause_checker.proofs.canonical.quotient.Goals as goal

pub of-requires : goal.of-requires
of-requires c =
    let g : SFits w128 c.args.g = c.ranges.g in
    let k : SFits w128 c.constant.result = search rules in
    let f : SFits w128 c.floor_div-constant.result = search rules in
    passed (quotient c.args.g c.args.t) _ _ (normal-quotient _ _ c.requires.positive c.requires.divides c.know_normal.ensures)
    (c.as_slice.ensures.value ∙ (simp to_z-of_z at c.in_ok-pairs.ensures) ∙ ap (divided c.args.g) c.pairs.ensures)
    (rw c.constant.ensures.exact at (simp to_z-of_z at c.floor_div-constant.ensures.exact)) f
