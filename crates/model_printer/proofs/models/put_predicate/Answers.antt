use Rattle.model_printer.proofs.Modelled.{predicate_put}
use Rattle.model_printer.proofs.models.put_predicate.Goals as goal

pub returns : goal.returns
returns c =
    predicate_put c.put_default_truth-2.result c.args.out.now.items c.put_truth_lines.new.out.items c.put_default_truth-2.new.out.items c.as_slice.result.now c.as_slice-2.result.now
    c.args.symbol.now c.args.model.now c.as_slice.ensures c.as_slice-2.ensures c.if-symbol-eq0.false c.in_ok-put_truth_lines.ensures c.put_default_truth-2.ensures
