use Rattle.job_solve.proofs.Causing.{causes}
use Rattle.job_solve.proofs.laws.causes_law.Goals as goal

pub returns : goal.returns
returns c = causes
