use Rattle.job_check.proofs.Causing.{one_answer}
use Rattle.job_check.proofs.laws.one_answer_law.Goals as goal

pub returns : goal.returns
returns c = one_answer
