use Rattle.std.proofs.Common.{◌+◌, length, sym, ap, ◌∙◌, arith}
use Rattle.std.proofs.lemmas.Result.{IfOk-weaker}
use Rattle.smt_writing.specs.Layers.{names_at}
use Rattle.smt_writing.proofs.Layering.{counted, names-outermost}
use Rattle.smt_writing.proofs.layers.count.Goals as goal

pub returns-then-place-eq0 : goal.returns-then-place-eq0
returns-then-place-eq0 c = sym (ap (λ k. length (names_at c.args.layers.now k)) c.if-place-eq0.true ∙ ap length (names-outermost c.args.layers.now))

pub returns : goal.returns
returns c = IfOk-weaker c.added.result _ _ (λ n h.
    h ∙ ap (λ z. c.index-layers-place.result.start + z) c.count_names.ensures
    ∙ counted c.args.layers.now c.args.place c.index-layers-place.result c.requires.layered (omega (arith, c.if-place-eq0.false)) c.requires.within c.index-layers-place.is) c.added.ensures
