use Rattle.job_solve.proofs.Grounded.{ground_enough}
use Rattle.job_solve.proofs.laws.enough_law.Goals as goal

pub returns : goal.returns
returns c = ground_enough
