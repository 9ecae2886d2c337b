use Rattle.prover_job.proofs.Deciding.{decided_output}
use Rattle.prover_job.proofs.laws.output_law.Goals as goal

pub returns : goal.returns
returns c = decided_output
