use Rattle.clause_root_laws.proofs.Clausal.{dnf_is, dnf_over}
use Rattle.clause_root_laws.proofs.laws.clausal_law.Goals as goal

pub returns-clause-truth : goal.returns-clause-truth
returns-clause-truth c = dnf_is

pub returns-clause-over : goal.returns-clause-over
returns-clause-over c = dnf_over
