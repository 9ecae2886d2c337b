use Rattle.linear_term.proofs.Names.{reduced_same}
use Rattle.linear_term.proofs.laws.same_law.Goals as goal

pub returns : goal.returns
returns c = reduced_same
