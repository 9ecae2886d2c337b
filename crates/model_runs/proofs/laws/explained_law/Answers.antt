use Rattle.model_runs.proofs.Problems.{explained}
use Rattle.model_runs.proofs.laws.explained_law.Goals as goal

pub returns : goal.returns
returns c = explained
