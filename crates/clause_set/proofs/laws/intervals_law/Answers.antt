use Rattle.clause_set.proofs.Intervals.{bounds-once, clause-sorted, equations-alone, equations-once}
use Rattle.clause_set.proofs.laws.intervals_law.Goals as goal

pub returns-clause-sorted : goal.returns-clause-sorted
returns-clause-sorted c = clause-sorted

pub returns-clause-bounds : goal.returns-clause-bounds
returns-clause-bounds c = bounds-once

pub returns-clause-equations : goal.returns-clause-equations
returns-clause-equations c = equations-once

pub returns-clause-alone : goal.returns-clause-alone
returns-clause-alone c = equations-alone
