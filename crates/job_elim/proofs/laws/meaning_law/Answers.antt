use Rattle.job_elim.proofs.Meaning.{means}
use Rattle.job_elim.proofs.laws.meaning_law.Goals as goal

pub returns : goal.returns
returns c = means
