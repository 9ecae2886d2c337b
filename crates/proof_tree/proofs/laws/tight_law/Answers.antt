use Rattle.proof_tree.proofs.Denying.{node_tight}
use Rattle.proof_tree.proofs.laws.tight_law.Goals as goal

pub returns : goal.returns
returns c = node_tight
