use Rattle.job_check.proofs.Meaning.{checked_status}
use Rattle.job_check.proofs.laws.status_law.Goals as goal

pub returns : goal.returns
returns c = checked_status
