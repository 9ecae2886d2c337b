use Rattle.model_trees.proofs.Refuting.{tight}
use Rattle.model_trees.proofs.laws.tight_law.Goals as goal

pub returns : goal.returns
returns c = tight
