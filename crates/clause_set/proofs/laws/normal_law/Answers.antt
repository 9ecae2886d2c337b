use Rattle.clause_set.proofs.ClauseTruth.{clause-truth}
use Rattle.clause_set.proofs.NormalTruth.{normal-truth}
use Rattle.clause_set.proofs.laws.normal_law.Goals as goal

pub returns-clause-literal : goal.returns-clause-literal
returns-clause-literal c = normal-truth

pub returns-clause-clause : goal.returns-clause-clause
returns-clause-clause c = clause-truth
