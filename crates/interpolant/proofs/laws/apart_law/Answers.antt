use Rattle.interpolant.proofs.Standing.{between_apart}
use Rattle.interpolant.proofs.laws.apart_law.Goals as goal

pub returns : goal.returns
returns c = between_apart
