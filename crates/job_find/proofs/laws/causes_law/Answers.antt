use Rattle.job_find.proofs.Means.{causes}
use Rattle.job_find.proofs.laws.causes_law.Goals as goal

pub returns : goal.returns
returns c = causes
