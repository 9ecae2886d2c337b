use Rattle.pri_reader.proofs.Exits.{fails}
use Rattle.pri_reader.proofs.ItemLists.{arity_bare, arity_empty, arity_none, arity_some}
use Rattle.pri_reader.proofs.items.arity.Goals as goal

pub returns-in_default-clause-read : goal.returns-in_default-clause-read
returns-in_default-clause-read c = arity_bare c.in_default.ensures

pub returns-in-Some-after-clause-read : goal.returns-in-Some-after-clause-read
returns-in-Some-after-clause-read c = arity_empty c.in-Some.ensures c.in-Some-after.ensures

pub returns-in_err-count-clause-refused : goal.returns-in_err-count-clause-refused
returns-in_err-count-clause-refused c = fails _ _ c.from_residual.ensures.1 (arity_none c.in-Some.ensures c.in_default-after.ensures c.in_err-count.ensures.refused)

pub returns-clause-read : goal.returns-clause-read
returns-clause-read c = arity_some c.in-Some.ensures c.in_default-after.ensures c.in_ok-count.ensures.read
