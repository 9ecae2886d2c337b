use Rattle.pri_problem.proofs.Encoded.{impure_so, pure_so}
use Rattle.job_least.specs.Leasts.{AnswersObjective}
use Rattle.job_least.proofs.minimising.problem_answer.Goals as goal

pub returns-in-Some : goal.returns-in-Some
returns-in-Some g c = impure_so (AnswersObjective c.args.term.now c.args.budget) c.args.problem.now c.in-Some.at c.in-Some.is _ c.refused_at.ensures

pub returns-in-None : goal.returns-in-None
returns-in-None g c = pure_so (AnswersObjective c.args.term.now c.args.budget) c.args.problem.now c.in-None.is _ c.pure_answer.ensures
