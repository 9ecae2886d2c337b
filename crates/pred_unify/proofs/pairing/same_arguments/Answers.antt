use Rattle.formula.proofs.Making.{made_memory}
use Rattle.pred_unify.proofs.Making.{same_cut, same_made}
use Rattle.pred_unify.proofs.pairing.same_arguments.Goals as goal

pub returns-in_err-equal : goal.returns-in_err-equal
returns-in_err-equal c = same_cut _ _ _ _ _ _ c.from_residual.ensures.1 c.in_err-equal.ensures

pub returns-in_err-push : goal.returns-in_err-push
returns-in_err-push c = made_memory _ _ c.from_residual-in_err-push.ensures.1

pub returns : goal.returns
returns c = same_made _ _ _ _ _ c.in_ok-push.ensures.ok c.in_ok-equal.ensures
