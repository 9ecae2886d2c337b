use Rattle.std.proofs.Common.{arith, rules, SFits, to_z-of_z}
use mir.Syntax.{w128}
use Rattle.pri_reader.proofs.Exits.{fails, takes_shorter}
use Rattle.pri_reader.proofs.TypeLines.{int_read, nat_read, no_close, no_comma, no_lower, no_type, no_upper, range_read}
use Rattle.pri_reader.proofs.types.type_name.Goals as goal

pub returns-in-Some-clause-read : goal.returns-in-Some-clause-read
returns-in-Some-clause-read c = nat_read c.in-Some.ensures

pub returns-in-Some-clause-shorter : goal.returns-in-Some-clause-shorter
returns-in-Some-clause-shorter c = takes_shorter c.in-Some.ensures

pub returns-in_err-behind-clause-refused : goal.returns-in_err-behind-clause-refused
returns-in_err-behind-clause-refused c = fails _ _ c.from_residual.ensures.1 (no_type c.in_default.ensures c.in_err-behind.ensures.failed)

pub returns-in_default-after-clause-read : goal.returns-in_default-after-clause-read
returns-in_default-after-clause-read c = int_read c.in_ok-behind.ensures.found c.in_default-after.ensures

pub returns-in_default-after-clause-shorter : goal.returns-in_default-after-clause-shorter
returns-in_default-after-clause-shorter c = takes_shorter c.in_ok-behind.ensures.found

pub returns-in_err-lower-clause-refused : goal.returns-in_err-lower-clause-refused
returns-in_err-lower-clause-refused c = fails _ _ c.from_residual-in_err-lower.ensures.1 (no_lower c.in_ok-behind.ensures.found c.in-Some-after.ensures c.in_err-lower.ensures.refused)

pub returns-in_err-second-clause-refused : goal.returns-in_err-second-clause-refused
returns-in_err-second-clause-refused c =
    fails _ _ c.from_residual-in_err-second.ensures.1
    (no_comma c.in_ok-behind.ensures.found c.in-Some-after.ensures c.in_ok-lower.ensures.read c.in_err-second.ensures.failed)

pub returns-in_err-upper-clause-refused : goal.returns-in_err-upper-clause-refused
returns-in_err-upper-clause-refused c =
    fails _ _ c.from_residual-in_err-upper.ensures.1
    (no_upper c.in_ok-behind.ensures.found c.in-Some-after.ensures c.in_ok-lower.ensures.read c.in_ok-second.ensures.found c.in_err-upper.ensures.refused)

pub returns-in_err-rest-clause-refused : goal.returns-in_err-rest-clause-refused
returns-in_err-rest-clause-refused c =
    fails _ _ c.from_residual-in_err-rest.ensures.1
    (no_close c.in_ok-behind.ensures.found c.in-Some-after.ensures c.in_ok-lower.ensures.read c.in_ok-second.ensures.found c.in_ok-upper.ensures.read c.in_err-rest.ensures.failed)

pub returns-clause-read : goal.returns-clause-read
returns-clause-read c =
    let f : SFits w128 c.in_ok-lower.lower = search rules in
    let g : SFits w128 c.in_ok-upper.upper = search rules in
    rw (to_z-of_z f, to_z-of_z g)
    (range_read c.in_ok-behind.ensures.found c.in-Some-after.ensures c.in_ok-lower.ensures.read c.in_ok-second.ensures.found c.in_ok-upper.ensures.read c.in_ok-rest.ensures.found)

pub returns-clause-shorter : goal.returns-clause-shorter
returns-clause-shorter c =
    omega (
      arith,
      takes_shorter c.in_ok-behind.ensures.found,
      takes_shorter c.in-Some-after.ensures,
      c.in_ok-lower.ensures.shorter,
      takes_shorter c.in_ok-second.ensures.found,
      c.in_ok-upper.ensures.shorter,
      takes_shorter c.in_ok-rest.ensures.found,
    )
