use Rattle.solve_laws.proofs.Splits.{alone_in}
use Rattle.optimiser.proofs.OneName.{clause-floor, clause_floor-unfold}
use Rattle.optimiser.proofs.laws.floor_law.Goals as goal

pub returns-clause-exact : goal.returns-clause-exact
returns-clause-exact c = λ j k e f s o. clause-floor j k e (alone_in j k f s o)

pub returns-clause-splits : goal.returns-clause-splits
returns-clause-splits c = λ j k f s o. clause_floor-unfold j k (alone_in j k f s o)
