use Rattle.std.proofs.Common.{arith}
use Rattle.formula.proofs.Making.{left_err, left_made}
use Rattle.pred_unify.proofs.Making.{met_onto, met_end}
use Rattle.pred_unify.proofs.pairing.all_predicates.Goals as goal

pub returns-in_err-with_predicates : goal.returns-in_err-with_predicates
returns-in_err-with_predicates c =
    left_err _ _ _ _ _ c.from_residual.ensures.1 (met_onto _ c.args.met.now c.loop-x.x-index c.x-item.result c.loop-x.out _ (omega arith) c.x-item.is c.loop-x.invariant) c.in_err-with_predicates.ensures

pub loop-x-preserved : goal.loop-x-preserved
loop-x-preserved c = left_made _ _ _ (met_onto _ c.args.met.now c.loop-x.x-index c.x-item.result c.loop-x.out _ (omega arith) c.x-item.is c.loop-x.invariant) c.in_ok-with_predicates.ensures

pub returns : goal.returns
returns c = met_end _ c.args.met.now c.loop-x.x-index c.loop-x.out _ (omega arith) c.loop-x.invariant
