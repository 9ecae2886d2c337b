use Rattle.clause_root_laws.proofs.Prepared.{prepared_is, prepared_over}
use Rattle.clause_root_laws.proofs.laws.prepared_law.Goals as goal

pub returns-clause-truth : goal.returns-clause-truth
returns-clause-truth c = prepared_is

pub returns-clause-over : goal.returns-clause-over
returns-clause-over c = prepared_over
