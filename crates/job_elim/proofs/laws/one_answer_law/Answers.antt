use Rattle.job_elim.proofs.Exactly.{one_answer}
use Rattle.job_elim.proofs.laws.one_answer_law.Goals as goal

pub returns : goal.returns
returns c = one_answer
