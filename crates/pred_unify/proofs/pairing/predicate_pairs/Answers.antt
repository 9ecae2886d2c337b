use Rattle.std.proofs.Common.{arith}
use Rattle.formula.proofs.Making.{left_err, left_made}
use Rattle.pred_unify.proofs.Making.{each_at, each_end}
use Rattle.pred_unify.proofs.pairing.predicate_pairs.Goals as goal

pub returns-in_err-predicate_pair : goal.returns-in_err-predicate_pair
returns-in_err-predicate_pair c = left_err _ _ _ _ _ c.from_residual.ensures.1 (each_at _ c.args.members.now c.loop-i.i _ c.loop-i.out _ (omega arith) c.loop-i.invariant) c.in_err-predicate_pair.ensures

pub loop-i-preserved : goal.loop-i-preserved
loop-i-preserved c = left_made _ _ _ (each_at _ c.args.members.now c.loop-i.i _ c.loop-i.out _ (omega arith) c.loop-i.invariant) c.in_ok-predicate_pair.ensures

pub returns : goal.returns
returns c = each_end _ c.args.members.now c.loop-i.i c.loop-i.out _ (omega arith) c.loop-i.invariant
