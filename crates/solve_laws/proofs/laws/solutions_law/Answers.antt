use Rattle.solve_laws.proofs.Solving.{solving-best, solving-none}
use Rattle.solve_laws.proofs.laws.solutions_law.Goals as goal

pub returns-clause-best : goal.returns-clause-best
returns-clause-best c = solving-best

pub returns-clause-none : goal.returns-clause-none
returns-clause-none c = solving-none
