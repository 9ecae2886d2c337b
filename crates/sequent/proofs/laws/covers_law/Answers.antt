use Rattle.sequent.proofs.Covering.{row_covers}
use Rattle.sequent.proofs.laws.covers_law.Goals as goal

pub returns : goal.returns
returns c = row_covers
