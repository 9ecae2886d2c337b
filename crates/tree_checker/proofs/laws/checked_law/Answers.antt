use Rattle.tree_checker.proofs.Accepted.{accepted_means}
use Rattle.tree_checker.proofs.laws.checked_law.Goals as goal

pub returns : goal.returns
returns c = accepted_means
