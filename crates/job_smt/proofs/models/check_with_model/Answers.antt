use Rattle.job_smt.proofs.Beside.{answer_of}
use Rattle.job_smt.proofs.models.check_with_model.Goals as goal

pub with_model-requires-clause-answer : goal.with_model-requires-clause-answer
with_model-requires-clause-answer g c = answer_of c.args.budget c.args.p.now _ _ c.in-Some.is c.in_ok-answer.ensures
