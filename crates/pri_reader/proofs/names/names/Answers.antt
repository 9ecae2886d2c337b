use Rattle.std.proofs.Common.{arith, refl}
use Rattle.pri_reader.proofs.BlockExits.{stops_memory}
use Rattle.pri_reader.proofs.Exits.{fails, takes_shorter}
use Rattle.pri_reader.proofs.NameLists.{names_end, names_next, names_none}
use Rattle.pri_reader.proofs.names.names.Goals as goal

pub returns-in_err-identifier-clause-refused : goal.returns-in_err-identifier-clause-refused
returns-in_err-identifier-clause-refused c = fails _ _ c.from_residual.ensures.1 (names_none c.names.invariant.leads c.in_err-identifier.ensures.failed)

pub returns-in_default-clause-read : goal.returns-in_default-clause-read
returns-in_default-clause-read c = rw (c.in_ok-push.ensures.ok, c.in_ok-name.ensures.exact) (names_end c.names.invariant.leads c.in_ok-identifier.ensures.found)

pub names-preserved : goal.names-preserved
names-preserved c = record {
  leads = rw (c.in_ok-push.ensures.ok, c.in_ok-name.ensures.exact) (names_next c.names.invariant.leads c.in_ok-identifier.ensures.found c.in-Some.ensures);
  shorter = omega (arith, c.names.invariant.shorter, takes_shorter c.in_ok-identifier.ensures.found, takes_shorter c.in-Some.ensures);
}

pub returns-in_err-name-clause-refused : goal.returns-in_err-name-clause-refused
returns-in_err-name-clause-refused c = fails _ _ c.from_residual-in_err-name.ensures.1 (stops_memory c.in_err-name.ensures.failed)

pub returns-in_err-push-clause-refused : goal.returns-in_err-push-clause-refused
returns-in_err-push-clause-refused c = fails _ _ c.from_residual-in_err-push.ensures.1 (stops_memory refl)

pub returns-in_default-clause-ended : goal.returns-in_default-clause-ended
returns-in_default-clause-ended c = c.in_default.ensures

pub returns-in_default-clause-shorter : goal.returns-in_default-clause-shorter
returns-in_default-clause-shorter c = omega (arith, c.names.invariant.shorter, takes_shorter c.in_ok-identifier.ensures.found)
