use Rattle.job_values.proofs.Refutes.{run_holds}
use Rattle.job_values.proofs.laws.run_law.Goals as goal

pub returns : goal.returns
returns c = run_holds
