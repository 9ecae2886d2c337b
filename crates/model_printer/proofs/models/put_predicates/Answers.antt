use Rattle.model_printer.proofs.Modelled.{predicates_step}
use Rattle.model_printer.proofs.models.put_predicates.Goals as goal

pub loop-symbol-preserved : goal.loop-symbol-preserved
loop-symbol-preserved c =
    predicates_step _ _ _ c.loop-symbol.symbols.now c.in-Some.more.now c.loop-symbol.models.now c.in-Some-split_first.rest.now c.in-Some.symbol.now c.in-Some-split_first.model.now
    c.in-Some.ensures.cases.0 c.in-Some-split_first.ensures.cases.0 c.in_ok-put_predicate.ensures c.loop-symbol.invariant
