use Rattle.sequent.proofs.Covering.{row_tight}
use Rattle.sequent.proofs.laws.tight_law.Goals as goal

pub returns : goal.returns
returns c = row_tight
