use Rattle.interpolant.proofs.Occurrences.{absent_is}
use Rattle.interpolant.proofs.laws.occurrence_law.Goals as goal

pub returns : goal.returns
returns c = absent_is
