use Rattle.prover_job.proofs.Telling.{printed_accepted}
use Rattle.prover_job.proofs.laws.printed_law.Goals as goal

pub returns : goal.returns
returns c = printed_accepted
