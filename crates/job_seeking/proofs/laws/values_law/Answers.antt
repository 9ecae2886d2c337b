use Rattle.job_seeking.proofs.Seeking.{values_hold}
use Rattle.job_seeking.proofs.laws.values_law.Goals as goal

pub returns : goal.returns
returns c = values_hold
