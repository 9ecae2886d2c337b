use Rattle.std.proofs.Common.{arith, refl}
use Rattle.pri_reader.proofs.BlockExits.{block_memory}
use Rattle.pri_reader.proofs.Exits.{fails, takes_shorter}
use Rattle.pri_reader.proofs.ItemLines.{items_lines_begin, items_lines_end, items_lines_next, items_lines_no_brace, items_lines_no_items, items_lines_no_line}
use Rattle.pri_reader.proofs.declarations.declarations.Goals as goal

pub returns-in_err-inner-clause-refused : goal.returns-in_err-inner-clause-refused
returns-in_err-inner-clause-refused c = fails _ _ c.from_residual.ensures.1 (items_lines_no_brace c.in_err-inner.ensures.failed)

pub lines-init : goal.lines-init
lines-init c = record {
  leads = rw c.new-all.ensures (items_lines_begin c.in_ok-inner.ensures.found);
  shorter = takes_shorter c.in_ok-inner.ensures.found;
}

pub returns-in-Some-clause-read : goal.returns-in-Some-clause-read
returns-in-Some-clause-read c = rw c.block_of.ensures (items_lines_end c.lines.invariant.leads c.in-Some.ensures)

pub returns-in_err-line-clause-refused : goal.returns-in_err-line-clause-refused
returns-in_err-line-clause-refused c = fails _ _ c.from_residual-in_err-line.ensures.1 (items_lines_no_line c.lines.invariant.leads c.in_err-line.ensures.refused)

pub returns-in_err-more-clause-refused : goal.returns-in_err-more-clause-refused
returns-in_err-more-clause-refused c = fails _ _ c.from_residual-in_err-more.ensures.1 (items_lines_no_items c.lines.invariant.leads c.in_ok-line.ensures.read c.in_err-more.ensures.refused)

pub lines-preserved : goal.lines-preserved
lines-preserved c = record {
  leads = rw c.in_ok-append.ensures (items_lines_next c.lines.invariant.leads c.in_ok-line.ensures.read c.in_ok-more.ensures.read);
  shorter = omega (arith, c.lines.invariant.shorter, c.in_ok-line.ensures.shorter, c.in_ok-more.ensures.shorter);
}

pub returns-in-Some-clause-shorter : goal.returns-in-Some-clause-shorter
returns-in-Some-clause-shorter c = omega (arith, c.lines.invariant.shorter, takes_shorter c.in-Some.ensures)

pub returns-in_err-append-clause-refused : goal.returns-in_err-append-clause-refused
returns-in_err-append-clause-refused c = fails _ _ c.from_residual-in_err-append.ensures.1 (block_memory refl)
