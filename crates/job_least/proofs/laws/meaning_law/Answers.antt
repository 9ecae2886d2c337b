use Rattle.job_least.proofs.Meaning.{means}
use Rattle.job_least.proofs.laws.meaning_law.Goals as goal

pub returns : goal.returns
returns c = means
