use Rattle.job_least.proofs.Causing.{causes}
use Rattle.job_least.proofs.laws.causes_law.Goals as goal

pub returns : goal.returns
returns c = causes
