use Rattle.job_check.proofs.Meaning.{means}
use Rattle.job_check.proofs.laws.meaning_law.Goals as goal

pub returns : goal.returns
returns c = means
