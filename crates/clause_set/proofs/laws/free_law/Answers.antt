use Rattle.clause_set.proofs.Shapes.{clauses-free, tidied-free, conjunction-free, disjunction-free, negation-free}
use Rattle.clause_set.proofs.laws.free_law.Goals as goal

pub returns-clause-clauses : goal.returns-clause-clauses
returns-clause-clauses c = clauses-free

pub returns-clause-tidy : goal.returns-clause-tidy
returns-clause-tidy c = tidied-free

pub returns-clause-and : goal.returns-clause-and
returns-clause-and c = conjunction-free

pub returns-clause-or : goal.returns-clause-or
returns-clause-or c = disjunction-free

pub returns-clause-not : goal.returns-clause-not
returns-clause-not c = negation-free
