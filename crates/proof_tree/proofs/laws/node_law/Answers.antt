use Rattle.proof_tree.proofs.Giving.{constraint_is, node_covers}
use Rattle.proof_tree.proofs.laws.node_law.Goals as goal

pub returns-clause-covers : goal.returns-clause-covers
returns-clause-covers c = node_covers

pub returns-clause-constraint : goal.returns-clause-constraint
returns-clause-constraint c = constraint_is
