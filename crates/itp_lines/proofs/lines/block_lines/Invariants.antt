-- With the lines for the seams that are left the text is whole.
use Rattle.std.proofs.Common.{◌<◌, ◌^◌, ◌-◌, length}
use Rattle.itp_sides.specs.Sides.{cut_of}
use Rattle.itp_lines.specs.Seams.{seams_from, seams_of}
use Rattle.itp_lines.proofs.Answering.{Goes}
use Rattle.itp_lines.proofs.lines.block_lines.Given as goal

abbrev pub invariant-loop-at : goal.invariant-loop-at
invariant-loop-at l = record {
  goes : Goes l.p (seams_from (cut_of l.p l.number) l.at (length (cut_of l.p l.number).sets - l.at)) l.purse l.text.items (seams_of (cut_of l.p l.number)) l.fn.purse;
  budget : l.purse.budget < 2 ^ 32;
}
