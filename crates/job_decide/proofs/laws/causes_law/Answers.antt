use Rattle.job_decide.proofs.Causing.{causes}
use Rattle.job_decide.proofs.laws.causes_law.Goals as goal

pub returns : goal.returns
returns c = causes
