use Rattle.elim_check.proofs.Answering.{form_run}
use Rattle.elim_check.proofs.laws.run_law.Goals as goal

pub returns : goal.returns
returns c = form_run
