use Rattle.clause_set.proofs.Ranges.{tidying-stays, disjunction-stays, conjunction-stays}
use Rattle.clause_set.proofs.laws.range_law.Goals as goal

pub returns-clause-tidy : goal.returns-clause-tidy
returns-clause-tidy c = tidying-stays

pub returns-clause-or : goal.returns-clause-or
returns-clause-or c = disjunction-stays

pub returns-clause-and : goal.returns-clause-and
returns-clause-and c = conjunction-stays
