use Rattle.pri_problem.specs.Encoded.{AnswersEncoded}
use Rattle.pri_problem.proofs.Answering.{posed_so, refused_so}
use Rattle.job_find.specs.Found.{AnswersFound}
use Rattle.job_find.proofs.finding.answer.Goals as goal

pub returns-in-Ok : goal.returns-in-Ok
returns-in-Ok g c = posed_so (AnswersEncoded (AnswersFound c.args.proves c.args.budget)) _ _ c.in-Ok.ensures.posed _ c.problem_answer.ensures

pub returns-in-Err : goal.returns-in-Err
returns-in-Err g c = refused_so (AnswersEncoded (AnswersFound c.args.proves c.args.budget)) _ _ c.in-Err.ensures.refused _ c.refuse.ensures
