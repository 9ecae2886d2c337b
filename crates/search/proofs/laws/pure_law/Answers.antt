use Rattle.search.proofs.Pures.{pure_run_is}
use Rattle.search.proofs.laws.pure_law.Goals as goal

pub returns : goal.returns
returns c = pure_run_is
