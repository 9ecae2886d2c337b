use Rattle.pred_unify.proofs.Pures.{closing_pure}
use Rattle.pred_unify.proofs.laws.pure_law.Goals as goal

pub returns : goal.returns
returns c = closing_pure
