use Rattle.job_smt.proofs.Single.{one_answer}
use Rattle.job_smt.proofs.laws.one_answer_law.Goals as goal

pub returns : goal.returns
returns c = one_answer
