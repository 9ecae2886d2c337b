use Rattle.job_solve.proofs.Exactly.{one_answer, one_answer_as}
use Rattle.job_solve.proofs.laws.one_answer_law.Goals as goal

pub returns-clause-plain : goal.returns-clause-plain
returns-clause-plain c = one_answer

pub returns-clause-proved : goal.returns-clause-proved
returns-clause-proved c = one_answer_as
