use Rattle.std.proofs.Common.{arith, refl}
use Rattle.pri_reader.proofs.BlockExits.{stops_memory}
use Rattle.pri_reader.proofs.Exits.{fails, takes_shorter}
use Rattle.pri_reader.proofs.ItemLists.{items_close, items_next, items_no_end, items_none}
use Rattle.pri_reader.proofs.items.items.Goals as goal

pub returns-in_err-item-clause-refused : goal.returns-in_err-item-clause-refused
returns-in_err-item-clause-refused c = fails _ _ c.from_residual.ensures.1 (items_none c.items.invariant.leads c.in_err-item.ensures.refused)

pub returns-in_err-behind-clause-refused : goal.returns-in_err-behind-clause-refused
returns-in_err-behind-clause-refused c = fails _ _ c.from_residual-in_err-behind.ensures.1 (items_no_end c.items.invariant.leads c.in_ok-item.ensures.read c.in_default.ensures c.in_err-behind.ensures.failed)

pub returns-in_default-clause-read : goal.returns-in_default-clause-read
returns-in_default-clause-read c = rw c.in_ok-push.ensures.ok (items_close c.items.invariant.leads c.in_ok-item.ensures.read c.in_ok-behind.ensures.found)

pub items-preserved : goal.items-preserved
items-preserved c = record {
  leads = rw c.in_ok-push.ensures.ok (items_next c.items.invariant.leads c.in_ok-item.ensures.read c.in-Some.ensures);
  shorter = omega (arith, c.items.invariant.shorter, c.in_ok-item.ensures.shorter, takes_shorter c.in-Some.ensures);
}

pub returns-in_err-push-clause-refused : goal.returns-in_err-push-clause-refused
returns-in_err-push-clause-refused c = fails _ _ c.from_residual-in_err-push.ensures.1 (stops_memory refl)

pub returns-in_default-clause-shorter : goal.returns-in_default-clause-shorter
returns-in_default-clause-shorter c = omega (arith, c.items.invariant.shorter, c.in_ok-item.ensures.shorter, takes_shorter c.in_ok-behind.ensures.found)
