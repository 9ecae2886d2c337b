use Rattle.job_smt.proofs.Meaning.{means_all}
use Rattle.job_smt.proofs.laws.meaning_law.Goals as goal

pub returns : goal.returns
returns c = means_all
