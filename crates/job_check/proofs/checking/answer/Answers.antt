use Rattle.pri_problem.specs.Encoded.{AnswersEncoded}
use Rattle.pri_problem.proofs.Answering.{posed_so, refused_so}
use Rattle.job_check.specs.Checked.{AnswersProof}
use Rattle.job_check.proofs.checking.answer.Goals as goal

pub returns-in-Ok : goal.returns-in-Ok
returns-in-Ok c = posed_so (AnswersEncoded (AnswersProof c.args.proof.now)) _ _ c.in-Ok.ensures.posed _ c.problem_answer.ensures

pub returns-in-Err : goal.returns-in-Err
returns-in-Err c = refused_so (AnswersEncoded (AnswersProof c.args.proof.now)) _ _ c.in-Err.ensures.refused _ c.refuse.ensures
