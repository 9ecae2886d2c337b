use Rattle.pri_lines.proofs.Printed.{all_below}
use Rattle.pri_lines.proofs.printing.interpolant_line.Goals as goal

pub labelled-requires-clause-over : goal.labelled-requires-clause-over
labelled-requires-clause-over c = all_below c.args.p.now c.args.d.now c.requires.over
