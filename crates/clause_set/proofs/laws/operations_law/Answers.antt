use Rattle.clause_set.proofs.Operations.{and-truth, clauses_of-truth, or-truth}
use Rattle.clause_set.proofs.laws.operations_law.Goals as goal

pub returns-clause-or : goal.returns-clause-or
returns-clause-or c = or-truth

pub returns-clause-and : goal.returns-clause-and
returns-clause-and c = and-truth

pub returns-clause-clauses : goal.returns-clause-clauses
returns-clause-clauses c = clauses_of-truth
