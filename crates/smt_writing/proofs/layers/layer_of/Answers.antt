use Rattle.std.proofs.Common.{◌≡◌, get_or, sym, ap, ◌∙◌, arith}
use Rattle.smt_names.specs.Saying.{nothing}
use Rattle.smt_writing.specs.Layers.{names_at}
use Rattle.smt_writing.proofs.Layering.{found_here, found_around, names-outermost, there}
use Rattle.smt_writing.proofs.layers.layer_of.Goals as goal

pub returns-then-layer-k : goal.returns-then-layer-k
returns-then-layer-k c =
    found_here c.args.layers.now c.args.place c.loop-at.at c.args.k c.index-layers-at.result c.requires.layered c.loop-at-test.true c.loop-at.invariant.0 c.index-layers-at.is c.if-layer-k.true
    c.loop-at.invariant.1 c.loop-at.invariant.2

pub loop-at-preserved : goal.loop-at-preserved
loop-at-preserved c =
    let known = there c.args.layers.now c.loop-at.at c.index-layers-at.result c.requires.layered c.loop-at-test.true c.loop-at.invariant.0 c.index-layers-at.is in
    let around = found_around c.args.layers.now c.loop-at.at c.args.k c.index-layers-at.result c.requires.layered c.loop-at-test.true c.loop-at.invariant.0 c.index-layers-at.is (omega (arith, c.if-layer-k.false)) in
    let outer = known.0 in
    let low = c.loop-at.invariant.0 in (
      omega (arith, outer, low),
      around.0 ∙ c.loop-at.invariant.1,
      around.1 ∙ c.loop-at.invariant.2,
    )

pub returns : goal.returns
returns c =
    let at : c.loop-at.at ≡ 0 = omega (arith, c.loop-at-test.false) in
    sym c.loop-at.invariant.1 ∙ ap (λ k. get_or (names_at c.args.layers.now k) c.args.k nothing) at ∙ ap (λ e. get_or e c.args.k nothing) (names-outermost c.args.layers.now)
