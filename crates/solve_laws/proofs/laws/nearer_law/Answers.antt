use Rattle.solve_laws.proofs.Ranks.{nearer-is, nearest-none_nearer}
use Rattle.solve_laws.proofs.laws.nearer_law.Goals as goal

pub returns-clause-order : goal.returns-clause-order
returns-clause-order c = nearer-is

pub returns-clause-nearest : goal.returns-clause-nearest
returns-clause-nearest c = nearest-none_nearer
