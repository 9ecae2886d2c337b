use Rattle.model_trees.proofs.Refuting.{walk_refutes}
use Rattle.model_trees.proofs.laws.walk_law.Goals as goal

pub returns : goal.returns
returns c = walk_refutes
