use Rattle.smt_models.proofs.Defining.{parameters_step}
use Rattle.smt_models.proofs.models.put_parameters.Goals as goal

pub loop-number-preserved : goal.loop-number-preserved
loop-number-preserved c = parameters_step _ _ _ c.args.count c.loop-number.number c.loop-number-test.true c.in_ok-put_parameter.ensures c.loop-number.invariant
