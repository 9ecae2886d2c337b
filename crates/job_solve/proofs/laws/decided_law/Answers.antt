use Rattle.job_solve.proofs.Causing.{decides}
use Rattle.job_solve.proofs.laws.decided_law.Goals as goal

pub returns : goal.returns
returns c = decides
