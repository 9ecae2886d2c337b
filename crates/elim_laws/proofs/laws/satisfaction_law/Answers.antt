use Rattle.elim_laws.proofs.Satisfied.{names_out-exact, names_yield}
use Rattle.elim_laws.proofs.laws.satisfaction_law.Goals as goal

pub returns-clause-run : goal.returns-clause-run
returns-clause-run c = names_out-exact

pub returns-clause-log : goal.returns-clause-log
returns-clause-log c = names_yield
