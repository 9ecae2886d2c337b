use Rattle.std.proofs.Common.{rules, to_z-of_z, ◌∙◌, ap}
use Rattle.clause_set.proofs.Owned.{residue_by_constant}
use mir.Syntax.{w128}
use mir.Val.{SFits}
use Rattle.clause_set.proofs.normal_form.with_residue.Goals as goal

pub returns : goal.returns
returns c =
    let g : SFits w128 c.args.d = c.ranges.d in
    let k : SFits w128 c.constant.result = search rules in
    let f : SFits w128 c.remainder-constant.result = search rules in
    residue_by_constant c.args.d c.remainder-constant.result c.args.t c.set_constant.new.self c.requires.own
    (c.set_constant.ensures ∙ ap (λ z. record { pairs = c.args.t.pairs; constant = z }) (to_z-of_z f))
    (rw c.constant.ensures.exact at (simp to_z-of_z at c.remainder-constant.ensures))
