use Rattle.std.proofs.Common.{rules, ◌≡◌, ap, sym, subst, arith, to_z-of_z, length, IfOk, ◌^◌, ◌-◌}
use mir.Syntax.{w128}
use mir.Val.{SFits}
use Rattle.linear_term.specs.Linear.{Linear, IsNormal}
use Rattle.formula.proofs.Raising.{raised_normal, raised_whole}
use Rattle.formula.proofs.shifting.raise_pairs.Goals as goal

pub of-requires : goal.of-requires
of-requires c =
    let f : SFits w128 c.constant.result = search rules in
    rw to_z-of_z (subst IsNormal
    (raised_whole c.args.from c.args.by c.loop-pair.pair-index c.args.t.now c.as_slice.result.now c.loop-pair.pairs.items c.constant.result c.as_slice.ensures c.loop-pair.invariant (omega (arith, ap length c.pairs-pair-items.ensures)) c.constant.ensures.exact)
    (raised_normal c.args.from c.args.by (2 ^ 32 - c.args.by) c.args.t.now (omega arith) c.requires c.know_normal.ensures))

pub returns : goal.returns
returns c =
    let f : SFits w128 c.constant.result = search rules in
    let made : IfOk c.of.result (λ (u : Linear). u ≡ record { pairs = c.as_slice.result.now; constant = c.constant.result }) = simp to_z-of_z at c.of.ensures in
    subst (λ (y : Linear). IfOk c.of.result (λ (u : Linear). u ≡ y))
    (sym (raised_whole c.args.from c.args.by c.loop-pair.pair-index c.args.t.now c.as_slice.result.now c.loop-pair.pairs.items c.constant.result c.as_slice.ensures c.loop-pair.invariant (omega (arith, ap length c.pairs-pair-items.ensures)) c.constant.ensures.exact))
    made
