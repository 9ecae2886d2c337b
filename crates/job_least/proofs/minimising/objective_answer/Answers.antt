use Rattle.form_typed.specs.Formula.{expression}
use Rattle.pri_problem.proofs.Encoded.{encoded_so}
use Rattle.job_least.specs.Leasts.{AnswersLeast}
use Rattle.job_least.proofs.minimising.objective_answer.Goals as goal

pub returns-in-Ok : goal.returns-in-Ok
returns-in-Ok g c = encoded_so (AnswersLeast c.args.budget (expression c.args.term.now)) c.args.problem.now _ c.in-Ok.ensures.encoded _ c.encoded_answer.ensures
