use Rattle.job_parts.proofs.Raising.{run_raised}
use Rattle.job_parts.proofs.laws.raised_law.Goals as goal

pub returns : goal.returns
returns c = run_raised
