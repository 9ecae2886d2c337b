use Rattle.pri_reader.proofs.Exits.{fails}
use Rattle.pri_reader.proofs.ItemLines.{line_none, line_typed, line_untyped}
use Rattle.pri_reader.proofs.declarations.line.Goals as goal

pub returns-then-not-typed-clause-read : goal.returns-then-not-typed-clause-read
returns-then-not-typed-clause-read c = line_untyped c.requires c.if-not-typed.true

pub returns-in_err-rest-clause-refused : goal.returns-in_err-rest-clause-refused
returns-in_err-rest-clause-refused c = fails _ _ c.from_residual.ensures.1 (line_none c.requires c.if-not-typed.false c.in_err-rest.ensures.failed)

pub returns-clause-read : goal.returns-clause-read
returns-clause-read c = line_typed c.if-not-typed.false c.in_ok-rest.ensures.found
