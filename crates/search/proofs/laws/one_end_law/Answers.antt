use Rattle.search.proofs.Endings.{one_end}
use Rattle.search.proofs.laws.one_end_law.Goals as goal

pub returns : goal.returns
returns c = one_end
