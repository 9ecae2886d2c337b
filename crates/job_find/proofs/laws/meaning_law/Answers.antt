use Rattle.job_find.proofs.Means.{means}
use Rattle.job_find.proofs.laws.meaning_law.Goals as goal

pub returns : goal.returns
returns c = means
