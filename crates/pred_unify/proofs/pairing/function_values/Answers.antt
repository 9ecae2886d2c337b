use Rattle.std.proofs.Common.{arith}
use Rattle.formula.proofs.Making.{left_err, left_made}
use Rattle.pred_unify.proofs.Making.{each_onto, each_end}
use Rattle.pred_unify.proofs.pairing.function_values.Goals as goal

pub returns-in_err-function_pair : goal.returns-in_err-function_pair
returns-in_err-function_pair c =
    left_err _ _ _ _ _ c.from_residual.ensures.1 (each_onto _ c.args.members.now c.loop-m.m-index c.m-item.result c.loop-m.out _ (omega arith) c.m-item.is c.loop-m.invariant) c.in_err-function_pair.ensures

pub loop-m-preserved : goal.loop-m-preserved
loop-m-preserved c = left_made _ _ _ (each_onto _ c.args.members.now c.loop-m.m-index c.m-item.result c.loop-m.out _ (omega arith) c.m-item.is c.loop-m.invariant) c.in_ok-function_pair.ensures

pub returns : goal.returns
returns c = each_end _ c.args.members.now c.loop-m.m-index c.loop-m.out _ (omega arith) c.loop-m.invariant
