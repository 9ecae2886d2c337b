use Rattle.job_decide.proofs.Means.{means}
use Rattle.job_decide.proofs.laws.meaning_law.Goals as goal

pub returns : goal.returns
returns c = means
