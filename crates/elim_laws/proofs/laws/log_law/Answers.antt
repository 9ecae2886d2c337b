use Rattle.elim_laws.proofs.Accepted.{log_exact, name_yields}
use Rattle.elim_laws.proofs.Always.{every_yields}
use Rattle.elim_laws.proofs.LogOver.{log_over}
use Rattle.elim_laws.proofs.laws.log_law.Goals as goal

pub returns-clause-formula : goal.returns-clause-formula
returns-clause-formula c = log_exact

pub returns-clause-over : goal.returns-clause-over
returns-clause-over c = log_over

pub returns-clause-name : goal.returns-clause-name
returns-clause-name c = name_yields

pub returns-clause-every : goal.returns-clause-every
returns-clause-every c = every_yields
