use Rattle.prover_job.proofs.Accepting.{accepted}
use Rattle.prover_job.proofs.laws.accepted_law.Goals as goal

pub returns : goal.returns
returns c = accepted
