use Rattle.job_smt.proofs.Causing.{causes}
use Rattle.job_smt.proofs.laws.causes_law.Goals as goal

pub returns : goal.returns
returns c = causes
