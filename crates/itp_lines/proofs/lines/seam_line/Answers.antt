use Rattle.std.proofs.Common.{◌∙◌, refl, sym}
use Rattle.itp_sides.specs.Sides.{cut_of}
use Rattle.itp_lines.proofs.Answering.{plain_line, some_applied}
use Rattle.itp_lines.proofs.lines.seam_line.Goals as goal

pub returns-then-is_plainly_valid-clause-line : goal.returns-then-is_plainly_valid-clause-line
returns-then-is_plainly_valid-clause-line c =
    plain_line c.args.p.now (record { cut = cut_of c.args.p.now c.args.number; at = c.args.at }) c.args.purse.now c.args.purse.now c.unknown_line.result
    (some_applied c.args.p.now c.if-is_none.ensures) (sym c.is_plainly_valid.ensures ∙ c.if-is_plainly_valid.true) refl c.unknown_line.ensures
