use Rattle.job_check.proofs.Causing.{causes}
use Rattle.job_check.proofs.laws.causes_law.Goals as goal

pub returns : goal.returns
returns c = causes
