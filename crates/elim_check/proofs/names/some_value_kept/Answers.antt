use Rattle.elim_check.proofs.Chained.{read_memory}
use Rattle.elim_check.proofs.names.some_value_kept.Goals as goal

pub returns-in_err-copy : goal.returns-in_err-copy
returns-in_err-copy c = read_memory c.from_residual.result c.requires c.from_residual.ensures.1
