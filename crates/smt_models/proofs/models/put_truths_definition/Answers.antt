use Rattle.smt_models.specs.Models.{truths_definition}
use Rattle.smt_models.proofs.Defining.{defined}
use Rattle.smt_models.proofs.models.put_truths_definition.Goals as goal

pub returns : goal.returns
returns c =
    defined _ _ _ _ c.as_slice.result.now (truths_definition c.args.symbol.now c.args.table.now.rows c.args.table.now.default) c.as_slice.ensures c.in_ok-put_head.ensures c.in_ok-put_truth_body.ensures c.in_ok-extend_from_slice.ensures.items
