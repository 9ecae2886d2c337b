use Rattle.clause_set.proofs.Covers.{covers-along, covers-truth, tidied-truth}
use Rattle.clause_set.proofs.Intervals.{covers-back}
use Rattle.clause_set.proofs.laws.covers_law.Goals as goal

pub returns-clause-covers : goal.returns-clause-covers
returns-clause-covers c = covers-truth

pub returns-clause-along : goal.returns-clause-along
returns-clause-along c = covers-along

pub returns-clause-tidy : goal.returns-clause-tidy
returns-clause-tidy c = tidied-truth

pub returns-clause-back : goal.returns-clause-back
returns-clause-back c = covers-back
