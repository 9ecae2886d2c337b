use Rattle.std.proofs.Common.{arith}
use Rattle.pri_reader.proofs.Exits.{fails, takes_shorter}
use Rattle.pri_reader.proofs.BoundNames.{more_comma, more_line, no_grouped, no_line, no_plain, plain_end, grouped_end}
use Rattle.pri_reader.proofs.binders.next_bound.Goals as goal

pub returns-in-Some-clause-read : goal.returns-in-Some-clause-read
returns-in-Some-clause-read c = more_comma c.in-Some.ensures

pub returns-in-Some-clause-shorter : goal.returns-in-Some-clause-shorter
returns-in-Some-clause-shorter c = takes_shorter c.in-Some.ensures

pub returns-in_err-rest-clause-refused : goal.returns-in_err-rest-clause-refused
returns-in_err-rest-clause-refused c = fails _ _ c.from_residual.ensures.1 (no_plain c.in_default.ensures c.if-not-several.true c.in_err-rest.ensures.failed)

pub returns-then-not-several-clause-read : goal.returns-then-not-several-clause-read
returns-then-not-several-clause-read c = plain_end c.if-not-several.true c.in_ok-rest.ensures.found

pub returns-then-not-several-clause-shorter : goal.returns-then-not-several-clause-shorter
returns-then-not-several-clause-shorter c = takes_shorter c.in_ok-rest.ensures.found

pub returns-in_err-rest-2-clause-refused : goal.returns-in_err-rest-2-clause-refused
returns-in_err-rest-2-clause-refused c =
    fails _ _ c.from_residual-in_err-rest-2.ensures.1 (no_grouped c.in_default.ensures c.if-not-several.false c.in_default-after.ensures c.in_err-rest-2.ensures.failed)

pub returns-in_default-after-clause-read : goal.returns-in_default-after-clause-read
returns-in_default-after-clause-read c = grouped_end c.if-not-several.false c.in_ok-rest-2.ensures.found

pub returns-in_default-after-clause-shorter : goal.returns-in_default-after-clause-shorter
returns-in_default-after-clause-shorter c = takes_shorter c.in_ok-rest-2.ensures.found

pub returns-in_err-new-clause-refused : goal.returns-in_err-new-clause-refused
returns-in_err-new-clause-refused c = fails _ _ c.from_residual-in_err-new.ensures.1 (no_line c.if-not-several.false c.in-Some-after.ensures c.in_err-new.ensures.refused)

pub returns-clause-read : goal.returns-clause-read
returns-clause-read c = more_line c.if-not-several.false c.in-Some-after.ensures c.in_ok-new.ensures.read

pub returns-clause-shorter : goal.returns-clause-shorter
returns-clause-shorter c = omega (arith, takes_shorter c.in-Some-after.ensures, c.in_ok-new.ensures.shorter)
