use Rattle.std.proofs.Common.{arith, refl}
use Rattle.pri_reader.proofs.ConstantLines.{lines_begin, lines_end, lines_next, lines_no_brace, lines_no_end, lines_no_name, lines_no_type}
use Rattle.pri_reader.proofs.BlockExits.{block_memory}
use Rattle.pri_reader.proofs.Exits.{fails, takes_shorter}
use Rattle.pri_reader.proofs.constants.constants.Goals as goal

pub returns-in_err-inner-clause-refused : goal.returns-in_err-inner-clause-refused
returns-in_err-inner-clause-refused c = fails _ _ c.from_residual.ensures.1 (lines_no_brace c.in_err-inner.ensures.failed)

pub lines-init : goal.lines-init
lines-init c = record {
  leads = rw c.new-all.ensures (lines_begin c.in_ok-inner.ensures.found);
  shorter = takes_shorter c.in_ok-inner.ensures.found;
}

pub returns-in-Some-clause-read : goal.returns-in-Some-clause-read
returns-in-Some-clause-read c = rw c.block_of.ensures (lines_end c.lines.invariant.leads c.in-Some.ensures)

pub returns-in_err-sort-clause-refused : goal.returns-in_err-sort-clause-refused
returns-in_err-sort-clause-refused c = fails _ _ c.from_residual-in_err-sort.ensures.1 (lines_no_type c.lines.invariant.leads c.in_default.ensures c.in_err-sort.ensures.refused)

pub returns-in_err-more-clause-refused : goal.returns-in_err-more-clause-refused
returns-in_err-more-clause-refused c =
    fails _ _ c.from_residual-in_err-more.ensures.1 (lines_no_name c.lines.invariant.leads c.in_default.ensures c.in_ok-sort.ensures.read c.in_err-more.ensures.refused)

pub returns-in_err-behind-clause-refused : goal.returns-in_err-behind-clause-refused
returns-in_err-behind-clause-refused c =
    fails _ _ c.from_residual-in_err-behind.ensures.1
    (lines_no_end c.lines.invariant.leads c.in_default.ensures c.in_ok-sort.ensures.read c.in_ok-more.ensures.read c.in_ok-more.ensures.ended c.in_err-behind.ensures.failed)

pub lines-preserved : goal.lines-preserved
lines-preserved c = record {
  leads = rw c.in_ok-append.ensures (lines_next c.lines.invariant.leads c.in_default.ensures c.in_ok-sort.ensures.read c.in_ok-more.ensures.read c.in_ok-behind.ensures.found);
  shorter = omega (arith, c.lines.invariant.shorter, c.in_ok-sort.ensures.shorter, c.in_ok-more.ensures.shorter, takes_shorter c.in_ok-behind.ensures.found);
}

pub returns-in-Some-clause-shorter : goal.returns-in-Some-clause-shorter
returns-in-Some-clause-shorter c = omega (arith, c.lines.invariant.shorter, takes_shorter c.in-Some.ensures)

pub returns-in_err-append-clause-refused : goal.returns-in_err-append-clause-refused
returns-in_err-append-clause-refused c = fails _ _ c.from_residual-in_err-append.ensures.1 (block_memory refl)
