use Rattle.job_least.proofs.Deciding.{decides}
use Rattle.job_least.proofs.laws.decided_law.Goals as goal

pub returns : goal.returns
returns c = decides
