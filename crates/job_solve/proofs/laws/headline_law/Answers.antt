use Rattle.job_solve.proofs.Meaning.{headline}
use Rattle.job_solve.proofs.laws.headline_law.Goals as goal

pub returns : goal.returns
returns c = headline
