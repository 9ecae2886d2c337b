use Rattle.prover_job.proofs.Finding.{found_output}
use Rattle.prover_job.proofs.laws.found_law.Goals as goal

pub returns : goal.returns
returns c = found_output
