use Rattle.proof_tree.proofs.Given.{node_given}
use Rattle.proof_tree.proofs.laws.names_law.Goals as goal

pub returns : goal.returns
returns c = node_given
