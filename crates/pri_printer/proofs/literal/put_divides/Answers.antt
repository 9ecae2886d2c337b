use Rattle.pri_printer.proofs.literal.put_divides.Goals as goal
use Rattle.pri_printer.proofs.TermTexts.{joined_divides}

pub returns : goal.returns
returns c =
    joined_divides c.args.out.now.items c.args.k.now _ _ _ _ _ _ _ _ _ _
    c.in_ok-extend_from_slice.ensures.items c.in_ok-extend_from_slice-2.ensures.items c.in_ok-extend_from_slice-3.ensures.items c.in_ok-put_term.ensures
    c.in_ok-extend_from_slice-4.ensures.items c.in_ok-put_divisor.ensures c.in_ok-extend_from_slice-5.ensures.items c.in_ok-extend_from_slice-6.ensures.items
