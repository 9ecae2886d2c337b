use Rattle.job_elim.proofs.Causing.{decides}
use Rattle.job_elim.proofs.laws.decided_law.Goals as goal

pub returns : goal.returns
returns c = decides
