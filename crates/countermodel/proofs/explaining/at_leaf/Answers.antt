use Rattle.countermodel.specs.Stopped.{stop_of}
use Rattle.countermodel.proofs.Told.{found_whole, table_cut, wants_memory}
use Rattle.countermodel.proofs.explaining.at_leaf.Goals as goal

pub returns-in_err-table : goal.returns-in_err-table
returns-in_err-table c = table_cut c.args.p.now c.args.stop.now c.as_slice.result.now c.as_slice-2.result.now c.from_residual.result c.as_slice.ensures c.as_slice-2.ensures c.in_err-table.ensures c.from_residual.ensures.1

pub returns-in_err-universals : goal.returns-in_err-universals
returns-in_err-universals c = wants_memory c.args.p.now (stop_of c.args.stop.now) c.from_residual-in_err-universals.result c.from_residual-in_err-universals.ensures.1

pub returns : goal.returns
returns c =
    found_whole c.args.p.now c.args.stop.now c.as_slice.result.now c.as_slice-3.result.now c.in_ok-universals.universals c.as_slice-2.result.now c.in_ok-table.table c.len.result c.len-2.result c.as_slice.ensures c.as_slice-2.ensures c.in_ok-table.ensures
    c.as_slice-3.ensures c.len.ensures c.len-2.ensures c.in_ok-universals.ensures
