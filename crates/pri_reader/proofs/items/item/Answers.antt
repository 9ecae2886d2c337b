use Rattle.std.proofs.Common.{arith}
use Rattle.pri_reader.proofs.BlockExits.{stops_memory}
use Rattle.pri_reader.proofs.Exits.{fails, takes_shorter}
use Rattle.pri_reader.proofs.ItemLists.{item_no_arity, item_none, item_read}
use Rattle.pri_reader.proofs.items.item.Goals as goal

pub returns-in_err-identifier-clause-refused : goal.returns-in_err-identifier-clause-refused
returns-in_err-identifier-clause-refused c = fails _ _ c.from_residual.ensures.1 (item_none c.in_err-identifier.ensures.failed)

pub returns-in_err-arity-clause-refused : goal.returns-in_err-arity-clause-refused
returns-in_err-arity-clause-refused c = fails _ _ c.from_residual-in_err-arity.ensures.1 (item_no_arity c.in_ok-identifier.ensures.found c.in_err-arity.ensures.refused)

pub returns-clause-read : goal.returns-clause-read
returns-clause-read c = rw c.in_ok-name.ensures.exact (item_read c.in_ok-identifier.ensures.found c.in_ok-arity.ensures.read)

pub returns-in_err-name-clause-refused : goal.returns-in_err-name-clause-refused
returns-in_err-name-clause-refused c = fails _ _ c.from_residual-in_err-name.ensures.1 (stops_memory c.in_err-name.ensures.failed)

pub returns-clause-shorter : goal.returns-clause-shorter
returns-clause-shorter c = omega (arith, takes_shorter c.in_ok-identifier.ensures.found, c.in_ok-arity.ensures.shorter)
