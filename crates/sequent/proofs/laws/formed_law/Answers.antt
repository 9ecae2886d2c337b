use Rattle.sequent.proofs.Forming.{premises_formed, start_formed}
use Rattle.sequent.proofs.laws.formed_law.Goals as goal

pub returns-clause-premises : goal.returns-clause-premises
returns-clause-premises c = premises_formed

pub returns-clause-start : goal.returns-clause-start
returns-clause-start c = start_formed
