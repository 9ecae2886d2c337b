use Rattle.job_least.proofs.Exactly.{one_answer}
use Rattle.job_least.proofs.laws.one_answer_law.Goals as goal

pub returns : goal.returns
returns c = one_answer
