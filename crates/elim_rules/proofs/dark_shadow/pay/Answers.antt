use Rattle.std.proofs.Common.{to_z-of_z}
use mir.Syntax.{w128}
use mir.Val.{SFits}
use Rattle.elim_rules.proofs.Darkness.{lows-positive, same_charge}
use Rattle.elim_rules.specs.Shadows.{dark_charge}
use Rattle.elim_rules.proofs.dark_shadow.pay.Goals as goal

pub count_all-count-requires-clause-b_positive : goal.count_all-count-requires-clause-b_positive
count_all-count-requires-clause-b_positive c = lows-positive c.args.x c.args.c.now c.args.lows.now c.requires.lows

pub returns : goal.returns
returns c =
    let a : SFits w128 c.args.a = c.ranges.a in
    c.step.ensures (dark_charge c.args.x c.args.c.now c.args.a)
    (same_charge c.args.x c.args.c.now c.args.lows.now c.args.ups.now c.args.a c.args.rest c.in_ok-whole.whole c.count_all-count.result c.requires.rest c.requires.lows c.requires.ups
    (simp to_z-of_z at c.count_all-count.ensures) c.in_ok-whole.ensures)
