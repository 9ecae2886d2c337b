use Rattle.std.proofs.Common.{rules, to_z-of_z}
use mir.Syntax.{w128}
use mir.Val.{SFits}
use Rattle.elim_rules.proofs.Results.{dark_pair_done}
use Rattle.elim_rules.proofs.shadow.dark_pair.Goals as goal

pub returns : goal.returns
returns c =
    let f : SFits w128 c.factor.result = search rules in
    let g : SFits w128 c.factor-2.result = search rules in
    dark_pair_done c.args.x c.args.low.now c.args.up.now c.in_ok-t.t c.factor.result c.factor-2.result c.lowered.result c.factor.ensures.exact c.factor-2.ensures.exact c.in_ok-t.ensures (simp to_z-of_z at c.lowered.ensures)
