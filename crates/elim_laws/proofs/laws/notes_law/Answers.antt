use Rattle.elim_laws.proofs.Noting.{eliminating_logs, exists_logs}
use Rattle.elim_laws.proofs.laws.notes_law.Goals as goal

pub returns-clause-formula : goal.returns-clause-formula
returns-clause-formula c = eliminating_logs

pub returns-clause-name : goal.returns-clause-name
returns-clause-name c = exists_logs
