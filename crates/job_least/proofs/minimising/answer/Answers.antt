use Rattle.pri_problem.specs.Encoded.{AnswersPure}
use Rattle.pri_problem.proofs.Answering.{posed_so, refused_so}
use Rattle.pri_problem.proofs.Bytes.{reads_pure}
use Rattle.job_least.specs.Leasts.{AnswersObjective}
use Rattle.job_least.proofs.minimising.answer.Goals as goal

pub problem_answer-requires-clause-pure : goal.problem_answer-requires-clause-pure
problem_answer-requires-clause-pure g c = (reads_pure _ _ c.in-Ok.ensures.posed.reads).0

pub returns-in-Ok : goal.returns-in-Ok
returns-in-Ok g c = posed_so (AnswersPure (AnswersObjective c.args.term.now c.args.budget)) _ _ c.in-Ok.ensures.posed _ c.problem_answer.ensures

pub returns-in-Err : goal.returns-in-Err
returns-in-Err g c = refused_so (AnswersPure (AnswersObjective c.args.term.now c.args.budget)) _ _ c.in-Err.ensures.refused _ c.refuse.ensures
