use Rattle.solve_laws.proofs.Splits.{clause-candidates, clause-splits}
use Rattle.solve_laws.proofs.laws.candidates_law.Goals as goal

pub returns-clause-exact : goal.returns-clause-exact
returns-clause-exact c = clause-candidates

pub returns-clause-splits : goal.returns-clause-splits
returns-clause-splits c = clause-splits
