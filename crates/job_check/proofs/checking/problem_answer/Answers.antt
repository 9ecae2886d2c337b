use Rattle.pri_problem.proofs.Encoded.{encoded_so, unencoded_so}
use Rattle.job_check.specs.Checked.{AnswersProof}
use Rattle.job_check.proofs.checking.problem_answer.Goals as goal

pub returns-in-Ok : goal.returns-in-Ok
returns-in-Ok c = encoded_so (AnswersProof c.args.proof.now) c.args.problem.now _ c.in-Ok.ensures.encoded _ c.proof_answer.ensures

pub returns-in-Err : goal.returns-in-Err
returns-in-Err c = unencoded_so (AnswersProof c.args.proof.now) c.args.problem.now _ c.in-Err.ensures.refused _ c.refuse_encoding.ensures
