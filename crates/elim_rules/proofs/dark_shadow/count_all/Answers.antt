use Rattle.std.proofs.Common.{rules, arith, to_z-of_z}
use mir.Syntax.{w128}
use mir.Val.{SFits}
use Rattle.clause_set.specs.Shadows.{factor, splinter_count}
use Rattle.clause_set.proofs.Weights.{sums_more, sums_all}
use Rattle.elim_rules.proofs.Darkness.{count_item}
use Rattle.elim_rules.proofs.dark_shadow.count_all.Goals as goal

pub loop-low-preserved : goal.loop-low-preserved
loop-low-preserved c =
    let a : SFits w128 c.args.a = c.ranges.a in
    let b : SFits w128 c.factor.result = search rules in
    simp to_z-of_z (sums_more (λ k. splinter_count c.args.a (factor c.args.x k)) c.args.lows.now c.loop-low.low-index c.low-item.result c.loop-low.sum c.saturating_add-sum.result c.capped_count.result
    c.loop-low-test.true c.low-item.is (count_item c.args.a c.factor.result c.args.x c.low-item.result c.capped_count.result (simp to_z-of_z at c.capped_count.ensures) c.factor.ensures.exact)
    c.saturating_add-sum.ensures (simp to_z-of_z at c.loop-low.invariant))

pub returns : goal.returns
returns c =
    let a : SFits w128 c.args.a = c.ranges.a in
    sums_all (λ k. splinter_count c.args.a (factor c.args.x k)) c.args.lows.now c.loop-low.low-index c.loop-low.sum (omega arith) (simp to_z-of_z at c.loop-low.invariant)
