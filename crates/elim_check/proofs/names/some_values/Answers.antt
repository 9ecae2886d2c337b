use Rattle.std.proofs.Common.{rules}
use Rattle.elim_check.proofs.Chained.{read_memory}
use Rattle.elim_check.proofs.Naming.{names_err, names_some, names_all}
use Rattle.elim_check.proofs.names.some_values.Goals as goal

pub returns-in_err-rest : goal.returns-in_err-rest
returns-in_err-rest c = read_memory c.from_residual.result c.requires c.from_residual.ensures.1

pub returns-in_err-rest-2 : goal.returns-in_err-rest-2
returns-in_err-rest-2 c = names_err c.names.left c.names.rest c.from_residual-in_err-rest-2.result c.names.invariant (search rules) c.in_err-rest-2.ensures c.from_residual-in_err-rest-2.ensures.1

pub names-preserved : goal.names-preserved
names-preserved c = names_some c.names.left c.names.rest c.in_ok-rest-2.rest c.names.invariant (search rules) c.in_ok-rest-2.ensures

pub returns : goal.returns
returns c = names_all c.names.left c.names.rest c.names.invariant (search rules)
