use Rattle.clause_set.proofs.Canonical.{tidied-alone, tidied-only, tidied-sorted}
use Rattle.clause_set.proofs.laws.canonical_law.Goals as goal

pub returns-clause-sorted : goal.returns-clause-sorted
returns-clause-sorted c = tidied-sorted

pub returns-clause-uncovered : goal.returns-clause-uncovered
returns-clause-uncovered c = tidied-alone

pub returns-clause-only : goal.returns-clause-only
returns-clause-only c = tidied-only
