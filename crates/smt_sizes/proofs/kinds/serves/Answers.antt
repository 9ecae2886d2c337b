use Rattle.std.proofs.Common.{◌∙◌, length, sym, ap}
use Rattle.std.proofs.lemmas.List.{length-map}
use Rattle.smt_sizes.specs.Shapes.{no_formula}
use Rattle.smt_sizes.specs.Weights.{Weighed}
use Rattle.smt_sizes.proofs.Scopes.{none-left}
use Rattle.smt_sizes.proofs.kinds.serves.Goals as goal

pub returns : goal.returns
returns c = λ _ xs is. (
  ap no_formula (sym is) ∙ c.loop-kind.invariant ∙ none-left c.args.kinds.now c.loop-kind.kind-index c.loop-kind-test.false,
  sym (length-map xs (λ (x : Weighed). x.is_formula)) ∙ sym (ap length is) ∙ sym c.if-as_slice-kinds.false ∙ ap length c.as_slice.ensures.value,
)
