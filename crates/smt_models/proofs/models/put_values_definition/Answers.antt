use Rattle.smt_models.specs.Models.{values_definition}
use Rattle.smt_models.proofs.Defining.{defined}
use Rattle.smt_models.proofs.models.put_values_definition.Goals as goal

pub returns : goal.returns
returns c =
    defined _ _ _ _ c.as_slice.result.now (values_definition c.args.symbol.now c.args.rows.now c.args.default.now) c.as_slice.ensures c.in_ok-put_head.ensures c.in_ok-put_values.ensures c.in_ok-extend_from_slice.ensures.items
