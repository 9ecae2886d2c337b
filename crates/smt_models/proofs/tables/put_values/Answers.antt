use Rattle.smt_models.proofs.Printing.{values_end}
use Rattle.smt_models.proofs.tables.put_values.Goals as goal

pub returns : goal.returns
returns c =
    values_end c.put_closes.result _ _ _ _ c.args.rows.now c.args.default.now c.in_ok-put_value_rows.ensures c.in_ok-put_integer.ensures c.put_closes.ensures
