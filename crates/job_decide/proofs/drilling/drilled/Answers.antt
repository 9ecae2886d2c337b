use Rattle.std.proofs.Common.{◌∙◌}
use Rattle.base_answers.specs.Answer.{answer_of}
use Rattle.job_decide.proofs.FirstLines.{drilled_so}
use Rattle.job_decide.proofs.drilling.drilled.Goals as goal

pub returns : goal.returns
returns g c = drilled_so c.args.budget c.args.count (answer_of c.in_ok-solved.solved) c.as_slice.result.now c.told.result (c.as_slice.ensures.value ∙ c.in_ok-problem.ensures.text) c.in_ok-solved.ensures c.told.ensures
