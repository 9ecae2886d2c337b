use Rattle.model_trees.proofs.Back.{premise_back}
use Rattle.model_trees.proofs.laws.back_law.Goals as goal

pub returns : goal.returns
returns c = premise_back
