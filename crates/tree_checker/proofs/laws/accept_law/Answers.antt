use Rattle.tree_checker.proofs.Accepting.{accepts_proofs}
use Rattle.tree_checker.proofs.laws.accept_law.Goals as goal

pub returns : goal.returns
returns c = accepts_proofs
