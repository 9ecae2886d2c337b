use Rattle.optimiser.proofs.LeastProofs.{least-exact, least-none, least-unbounded}
use Rattle.optimiser.proofs.laws.least_law.Goals as goal

pub returns-clause-exact : goal.returns-clause-exact
returns-clause-exact c = least-exact

pub returns-clause-none : goal.returns-clause-none
returns-clause-none c = least-none

pub returns-clause-unbounded : goal.returns-clause-unbounded
returns-clause-unbounded c = least-unbounded
