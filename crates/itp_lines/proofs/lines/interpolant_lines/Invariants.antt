-- With the lines for the blocks that are left the text is whole.
use Rattle.std.proofs.Common.{◌<◌, ◌^◌, drop}
use Rattle.itp_lines.specs.Seams.{seams}
use Rattle.itp_lines.proofs.Answering.{Goes}
use Rattle.itp_lines.proofs.lines.interpolant_lines.Given as goal

abbrev pub invariant-loop-number : goal.invariant-loop-number
invariant-loop-number l = record {
  goes : Goes l.p (seams (drop l.number l.p.cuts)) l.purse l.text.items (seams l.p.cuts) l.fn.purse;
  budget : l.purse.budget < 2 ^ 32;
}
