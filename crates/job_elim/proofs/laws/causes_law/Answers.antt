use Rattle.job_elim.proofs.Causing.{causes}
use Rattle.job_elim.proofs.laws.causes_law.Goals as goal

pub returns : goal.returns
returns c = causes
