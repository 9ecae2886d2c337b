use Rattle.std.proofs.Common.{arith}
use Rattle.pri_reader.proofs.Exits.{fails}
use Rattle.pri_reader.proofs.Exits.{takes_shorter}
use Rattle.pri_reader.proofs.BoundNames.{binding_begins, binding_no_type, binding_more, binding_ends, binding_no_name, binding_deep, binding_no_more}
use Rattle.pri_reader.proofs.binders.bound_names.Goals as goal

pub returns-in_err-sort-clause-refused : goal.returns-in_err-sort-clause-refused
returns-in_err-sort-clause-refused c = fails _ _ c.from_residual.ensures.1 (binding_no_type c.in_err-sort.ensures.refused)

pub names-init : goal.names-init
names-init c = record {
  leads = rw c.new-names.ensures (binding_begins c.in_ok-sort.ensures.read);
  above = omega arith;
  below = c.requires;
  shorter = c.in_ok-sort.ensures.shorter;
}

pub returns-in_err-identifier-clause-refused : goal.returns-in_err-identifier-clause-refused
returns-in_err-identifier-clause-refused c = fails _ _ c.from_residual-in_err-identifier.ensures.1 (binding_no_name c.names.invariant.leads c.in_err-identifier.ensures.failed)

pub returns-in_err-levels-clause-refused : goal.returns-in_err-levels-clause-refused
returns-in_err-levels-clause-refused c = fails _ _ c.from_residual-in_err-levels.ensures.1 (binding_deep c.names.invariant.leads c.in_ok-identifier.ensures.found c.in_err-levels.ensures.failed)

pub returns-in_err-next-clause-refused : goal.returns-in_err-next-clause-refused
returns-in_err-next-clause-refused c = fails _ _ c.from_residual-in_err-next.ensures.1 (binding_no_more c.names.invariant.leads c.in_ok-identifier.ensures.found c.in_ok-levels.ensures.found c.in_err-next.ensures.refused)

pub returns-in-Body-clause-read : goal.returns-in-Body-clause-read
returns-in-Body-clause-read c = rw (c.in_ok-push.ensures.ok, c.in_ok-name.ensures.exact) (binding_ends c.names.invariant.leads c.in_ok-identifier.ensures.found c.in_ok-levels.ensures.found (rw c.in-Body.is at c.in_ok-next.ensures.read))

pub names-preserved : goal.names-preserved
names-preserved c = record {
  leads = rw (c.in_ok-push.ensures.ok, c.in_ok-name.ensures.exact) (binding_more c.names.invariant.leads c.in_ok-identifier.ensures.found c.in_ok-levels.ensures.found (rw c.in-Name.is at c.in_ok-next.ensures.read));
  above = omega (arith, c.names.invariant.above, c.in_ok-levels.ensures.found.is);
  below = omega (arith, c.in_ok-levels.ensures.found.is, c.in_ok-levels.ensures.found.below);
  shorter = omega (arith, c.names.invariant.shorter, c.in_ok-next.ensures.shorter, takes_shorter c.in_ok-identifier.ensures.found);
}
