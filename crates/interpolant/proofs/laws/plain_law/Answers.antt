use Rattle.interpolant.proofs.Applications.{pure_assumed}
use Rattle.interpolant.proofs.laws.plain_law.Goals as goal

pub returns : goal.returns
returns c = pure_assumed
