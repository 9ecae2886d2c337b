use Rattle.std.proofs.Common.{arith}
use Rattle.std.proofs.Common.{add-one}
use Rattle.pri_reader.proofs.Exits.{fails, takes_shorter}
use Rattle.pri_reader.proofs.ItemLists.{parameters_end, parameters_next, parameters_no_end, parameters_none}
use Rattle.pri_reader.proofs.items.parameters.Goals as goal

pub returns-in_err-named-clause-refused : goal.returns-in_err-named-clause-refused
returns-in_err-named-clause-refused c = fails _ _ c.from_residual.ensures.1 (parameters_none c.parameters.invariant.leads c.in_err-named.ensures.failed)

pub returns-in_err-behind-clause-refused : goal.returns-in_err-behind-clause-refused
returns-in_err-behind-clause-refused c = fails _ _ c.from_residual-in_err-behind.ensures.1 (parameters_no_end c.parameters.invariant.leads c.in_ok-named.ensures.found c.behind_name-rest.ensures.read c.in_default.ensures c.in_err-behind.ensures.failed)

pub returns-in_default-clause-read : goal.returns-in_default-clause-read
returns-in_default-clause-read c = rw (add-one c.parameters.count) (parameters_end c.parameters.invariant.leads c.in_ok-named.ensures.found c.behind_name-rest.ensures.read c.in_ok-behind.ensures.found)

pub parameters-preserved : goal.parameters-preserved
parameters-preserved c = record {
  leads = rw (add-one c.parameters.count) (parameters_next c.parameters.invariant.leads c.in_ok-named.ensures.found c.behind_name-rest.ensures.read c.in-Some.ensures);
  counted = omega (arith, c.parameters.invariant.counted, takes_shorter c.in_ok-named.ensures.found, c.behind_name-rest.ensures.shorter, takes_shorter c.in-Some.ensures);
}
