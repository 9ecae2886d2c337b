use Rattle.pred_unify.proofs.Leaves.{leaf_tight}
use Rattle.pred_unify.proofs.laws.leaf_law.Goals as goal

pub returns : goal.returns
returns c = leaf_tight
