use Rattle.model_runs.proofs.Problems.{refuted}
use Rattle.model_runs.proofs.laws.refuted_law.Goals as goal

pub returns : goal.returns
returns c = refuted
