use Rattle.std.proofs.Common.{rules, ◌≡◌, ap, sym, subst, arith, to_z-of_z, length, IfOk}
use mir.Syntax.{w128}
use mir.Val.{SFits}
use Rattle.linear_term.specs.Linear.{Linear, IsNormal}
use Rattle.form_miniscope.proofs.Lowered.{lowered_normal, lowered_whole}
use Rattle.form_miniscope.proofs.freeing.lower.Goals as goal

pub of-requires : goal.of-requires
of-requires c =
    let f : SFits w128 c.constant.result = search rules in
    rw to_z-of_z (subst IsNormal
    (lowered_whole c.args.n c.loop-pair.pair-index c.args.t.now c.as_slice.result.now c.loop-pair.pairs.items c.constant.result c.as_slice.ensures c.loop-pair.invariant (omega (arith, ap length c.pairs-pair-items.ensures)) c.constant.ensures.exact)
    (lowered_normal c.args.n c.args.t.now c.requires c.know_normal.ensures))

pub returns : goal.returns
returns c =
    let f : SFits w128 c.constant.result = search rules in
    let made : IfOk c.of.result (λ (u : Linear). u ≡ record { pairs = c.as_slice.result.now; constant = c.constant.result }) = simp to_z-of_z at c.of.ensures in
    subst (λ (y : Linear). IfOk c.of.result (λ (u : Linear). u ≡ y))
    (sym (lowered_whole c.args.n c.loop-pair.pair-index c.args.t.now c.as_slice.result.now c.loop-pair.pairs.items c.constant.result c.as_slice.ensures c.loop-pair.invariant (omega (arith, ap length c.pairs-pair-items.ensures)) c.constant.ensures.exact))
    made
