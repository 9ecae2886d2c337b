use Rattle.job_check.proofs.Exactly.{decided}
use Rattle.job_check.proofs.laws.decided_law.Goals as goal

pub returns : goal.returns
returns c = decided
