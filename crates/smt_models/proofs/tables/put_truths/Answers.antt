use Rattle.smt_models.proofs.Printing.{truths_end}
use Rattle.smt_models.proofs.tables.put_truths.Goals as goal

pub returns : goal.returns
returns c =
    truths_end c.put_closes.result _ _ _ _ c.args.rows.now c.args.default c.in_ok-put_truth_rows.ensures c.in_ok-put_truth.ensures c.put_closes.ensures
