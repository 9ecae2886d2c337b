use Rattle.std.proofs.Common.{◌∙◌}
use Rattle.pred_interpolant.proofs.Tables.{found_end, found_next, found_rebound, found_stop}
use Rattle.pred_interpolant.proofs.closing.rebound.Goals as goal

pub returns-then-own-i : goal.returns-then-own-i
returns-then-own-i c =
    found_stop c.args.n c.args.own.now c.args.x c.loop-i.i _ c.loop-i-test.true c.if-own-i.true c.loop-i.invariant ∙ found_rebound c.args.n c.args.own.now c.args.x c.requires.within

pub loop-i-preserved : goal.loop-i-preserved
loop-i-preserved c = found_next c.args.n c.args.own.now c.args.x c.loop-i.i _ c.loop-i-test.true c.if-own-i.false c.loop-i.invariant

pub returns : goal.returns
returns c = found_end c.args.n c.args.own.now c.args.x c.loop-i.i _ c.loop-i-test.false c.loop-i.invariant ∙ found_rebound c.args.n c.args.own.now c.args.x c.requires.within
