use Rattle.interpolant.proofs.Smaller.{parts_small}
use Rattle.interpolant.proofs.laws.size_law.Goals as goal

pub returns : goal.returns
returns c = parts_small
