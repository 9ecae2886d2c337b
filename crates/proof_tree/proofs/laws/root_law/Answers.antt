use Rattle.proof_tree.proofs.Proving.{root_covers, root_exact}
use Rattle.proof_tree.proofs.laws.root_law.Goals as goal

pub returns-clause-covers : goal.returns-clause-covers
returns-clause-covers c = root_covers

pub returns-clause-exact : goal.returns-clause-exact
returns-clause-exact c = root_exact
