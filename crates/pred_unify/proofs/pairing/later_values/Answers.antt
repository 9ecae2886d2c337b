use Rattle.std.proofs.Common.{arith}
use Rattle.formula.proofs.Making.{left_err, left_made}
use Rattle.pred_unify.proofs.Making.{later_onto, later_end, later_made}
use Rattle.pred_unify.proofs.pairing.later_values.Goals as goal

pub returns-in_err-with_functions : goal.returns-in_err-with_functions
returns-in_err-with_functions c =
    left_err _ _ _ _ _ c.from_residual.ensures.1 (later_onto c.args.members.now c.loop-i.i _ c.loop-i.out _ (omega arith) c.loop-i.invariant)
    (later_made c.args.members.now c.loop-i.i _ _ _ _ c.in_err-with_functions.ensures)

pub loop-i-preserved : goal.loop-i-preserved
loop-i-preserved c =
    left_made _ _ _ (later_onto c.args.members.now c.loop-i.i _ c.loop-i.out _ (omega arith) c.loop-i.invariant) (later_made c.args.members.now c.loop-i.i _ _ _ _ c.in_ok-with_functions.ensures)

pub returns : goal.returns
returns c = later_end c.args.members.now c.loop-i.i c.loop-i.out _ (omega arith) c.loop-i.invariant
