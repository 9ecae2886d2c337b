use Rattle.formula.proofs.Making.{made_ok, made_err, made_just, made_memory}
use Rattle.pred_unify.proofs.Making.{values_cut, values_rest, values_pushed}
use Rattle.pred_unify.proofs.pairing.other_values.Goals as goal

pub returns-in_err-all : goal.returns-in_err-all
returns-in_err-all c = values_cut _ _ _ _ _ _ _ _ c.from_residual.ensures.1 c.in_err-all.ensures

pub returns-in_err-d : goal.returns-in_err-d
returns-in_err-d c = values_rest _ _ _ _ _ _ _ _ c.in_ok-all.ensures (made_err (λ x. x) _ _ _ _ c.from_residual-in_err-d.ensures.1 c.in_err-d.ensures)

pub returns-in_err-push : goal.returns-in_err-push
returns-in_err-push c = made_memory _ _ c.from_residual-in_err-push.ensures.1

pub returns-in_err-push-2 : goal.returns-in_err-push-2
returns-in_err-push-2 c = made_memory _ _ c.from_residual-in_err-push-2.ensures.1

pub returns : goal.returns
returns c =
    values_rest _ _ _ _ _ _ _ _ c.in_ok-all.ensures
    (made_ok (λ x. x) _ _ _ c.in_ok-d.ensures (made_just _ _ _ (values_pushed _ _ _ _ _ c.in_ok-push.ensures.ok c.in_ok-push-2.ensures.ok)))
