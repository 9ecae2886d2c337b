use Rattle.job_values.proofs.Refutes.{refuted_found}
use Rattle.job_values.proofs.laws.found_law.Goals as goal

pub returns : goal.returns
returns c = refuted_found
