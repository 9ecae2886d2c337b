use Rattle.pri_problem.specs.Encoded.{AnswersEncoded}
use Rattle.pri_problem.proofs.Encoded.{impure_so, pure_so}
use Rattle.job_elim.specs.Eliminated.{AnswersElimination}
use Rattle.job_elim.proofs.eliminating.problem_answer.Goals as goal

pub returns-in-Some : goal.returns-in-Some
returns-in-Some g c = impure_so (AnswersEncoded (AnswersElimination c.args.budget)) c.args.problem.now c.in-Some.at c.in-Some.is _ c.refused_at.ensures

pub returns-in-None : goal.returns-in-None
returns-in-None g c = pure_so (AnswersEncoded (AnswersElimination c.args.budget)) c.args.problem.now c.in-None.is _ c.pure_answer.ensures
