use Rattle.elim_laws.proofs.Whole.{eliminated-exact}
use Rattle.elim_laws.proofs.Over.{eliminated-over}
use Rattle.elim_laws.proofs.Depth.{eliminated-same}
use Rattle.elim_laws.proofs.laws.exact_law.Goals as goal

pub returns-clause-exact : goal.returns-clause-exact
returns-clause-exact c = eliminated-exact

pub returns-clause-over : goal.returns-clause-over
returns-clause-over c = eliminated-over

pub returns-clause-bound : goal.returns-clause-bound
returns-clause-bound c = eliminated-same
