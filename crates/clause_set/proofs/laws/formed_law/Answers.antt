use Rattle.clause_set.proofs.Shapes.{clauses_of-formed, tidied-formed, conjunction-formed, disjunction-formed, negation-formed}
use Rattle.clause_set.proofs.laws.formed_law.Goals as goal

pub returns-clause-clauses : goal.returns-clause-clauses
returns-clause-clauses c = clauses_of-formed

pub returns-clause-tidy : goal.returns-clause-tidy
returns-clause-tidy c = tidied-formed

pub returns-clause-and : goal.returns-clause-and
returns-clause-and c = conjunction-formed

pub returns-clause-or : goal.returns-clause-or
returns-clause-or c = disjunction-formed

pub returns-clause-not : goal.returns-clause-not
returns-clause-not c = negation-formed
