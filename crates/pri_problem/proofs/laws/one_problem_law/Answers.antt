use Rattle.pri_problem.proofs.Existing.{either}
use Rattle.pri_problem.proofs.Bytes.{one_problem, one_refusal, read_or_refused}
use Rattle.pri_problem.proofs.laws.one_problem_law.Goals as goal

pub returns-clause-problem : goal.returns-clause-problem
returns-clause-problem c = one_problem

pub returns-clause-refusal : goal.returns-clause-refusal
returns-clause-refusal c = one_refusal

pub returns-clause-either : goal.returns-clause-either
returns-clause-either c = read_or_refused

pub returns-clause-some : goal.returns-clause-some
returns-clause-some c = either
