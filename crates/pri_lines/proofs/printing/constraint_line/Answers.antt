use Rattle.pri_lines.proofs.Printed.{constants_below}
use Rattle.pri_lines.proofs.printing.constraint_line.Goals as goal

pub labelled-requires-clause-over : goal.labelled-requires-clause-over
labelled-requires-clause-over c = constants_below c.args.p.now c.args.d.now c.requires.over
