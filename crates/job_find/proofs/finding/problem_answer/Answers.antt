use Rattle.job_find.proofs.Answering.{encoded_found}
use Rattle.job_find.proofs.finding.problem_answer.Goals as goal

pub returns-in-Ok : goal.returns-in-Ok
returns-in-Ok g c = encoded_found c.args.proves c.args.budget c.args.problem.now c.encoded_answer.result c.in-Ok.ensures.encoded.fits c.encoded_answer.ensures
