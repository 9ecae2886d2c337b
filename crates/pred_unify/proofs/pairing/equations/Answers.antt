use Rattle.std.proofs.Common.{arith, map}
use Rattle.formula.specs.Tree.{form}
use Rattle.formula.proofs.Making.{left_err, left_made, made_memory}
use Rattle.pred_unify.proofs.Making.{equations_next, equations_pushed, equations_end}
use Rattle.pred_unify.proofs.pairing.equations.Goals as goal

pub returns-in_err-d : goal.returns-in_err-d
returns-in_err-d c =
    left_err (λ x. x) (map form) _ _ _ c.from_residual.ensures.1
    (equations_next c.args.ss.now c.args.ts.now c.loop-i.i _ _ c.loop-i.out _ (omega arith) c.requires c.index-ss-i.is c.index-ts-i.is c.loop-i.invariant) c.in_err-d.ensures

pub returns-in_err-push : goal.returns-in_err-push
returns-in_err-push c = made_memory (map form) _ c.from_residual-in_err-push.ensures.1

pub loop-i-preserved : goal.loop-i-preserved
loop-i-preserved c =
    equations_pushed _ _ c.loop-i.out _ _ _ c.in_ok-push.ensures.ok
    (left_made (λ x. x) _ _
    (equations_next c.args.ss.now c.args.ts.now c.loop-i.i _ _ c.loop-i.out _ (omega arith) c.requires c.index-ss-i.is c.index-ts-i.is c.loop-i.invariant) c.in_ok-d.ensures)

pub returns : goal.returns
returns c = equations_end c.args.ss.now c.args.ts.now c.loop-i.i c.loop-i.out _ (omega arith) c.loop-i.invariant
