use Rattle.sequent.proofs.Lasts.{met_gamma}
use Rattle.sequent.proofs.laws.last_law.Goals as goal

pub returns : goal.returns
returns c = met_gamma
