use Rattle.smt_models.proofs.Printing.{closes_step}
use Rattle.smt_models.proofs.tables.put_closes.Goals as goal

pub loop-preserved : goal.loop-preserved
loop-preserved c = closes_step _ _ _ c.args.count c.loop.counter c.loop-test.true c.in_ok-extend_from_slice.ensures.items c.loop.invariant
