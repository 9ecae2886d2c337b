use Rattle.std.proofs.Common.{sym}
use Rattle.proof_file.proofs.Parts.{line_first, one_line}
use Rattle.proof_file.proofs.file.first_line.Goals as goal

pub returns-in-Some-clause-first : goal.returns-in-Some-clause-first
returns-in-Some-clause-first c = line_first c.args.bytes.now c.in-Some.end (sym c.in-Some.ensures)

pub returns-in-None-clause-first : goal.returns-in-None-clause-first
returns-in-None-clause-first c = one_line c.args.bytes.now (sym c.in-None.ensures)
