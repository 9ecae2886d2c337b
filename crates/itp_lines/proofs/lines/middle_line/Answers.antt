use Rattle.itp_lines.proofs.Answering.{middle_left, middle_line, no_existentials, some_meaning, unmade_left, unmade_line}
use Rattle.itp_lines.proofs.lines.middle_line.Goals as goal

pub middle-requires-clause-alone : goal.middle-requires-clause-alone
middle-requires-clause-alone c = no_existentials some_meaning c.args.p.now (c.requires.holds some_meaning)

pub returns-in-Ok-clause-line : goal.returns-in-Ok-clause-line
returns-in-Ok-clause-line c =
    middle_line c.args.p.now c.args.number c.args.at c.in_ok-number.number c.in_ok-at.at c.in_ok-number.ensures c.in_ok-at.ensures c.args.purse.now c.middle.new.purse c.requires.applied c.requires.plain
    c.middle_found.result c.in-Ok.found c.in-Ok.ensures.work
    (record { is_below = c.in-Ok.ensures.below; is_above = c.in-Ok.ensures.above; proved_below = c.in-Ok.ensures.proved_below; proved_above = c.in-Ok.ensures.proved_above })
    c.middle_found.ensures

pub returns-in-Ok-clause-left : goal.returns-in-Ok-clause-left
returns-in-Ok-clause-left c =
    middle_left c.args.p.now c.args.number c.args.at c.in_ok-number.number c.in_ok-at.at c.in_ok-number.ensures c.in_ok-at.ensures c.args.purse.now c.middle.new.purse c.requires.applied c.requires.plain
    c.middle_found.result c.in-Ok.found c.in-Ok.ensures.work
    (record { is_below = c.in-Ok.ensures.below; is_above = c.in-Ok.ensures.above; proved_below = c.in-Ok.ensures.proved_below; proved_above = c.in-Ok.ensures.proved_above })
    c.middle_found.ensures

pub returns-in-Err-clause-line : goal.returns-in-Err-clause-line
returns-in-Err-clause-line c =
    unmade_line c.args.p.now c.args.number c.args.at c.in_ok-number.number c.in_ok-at.at c.in_ok-number.ensures c.in_ok-at.ensures c.args.purse.now c.middle.new.purse c.requires.applied c.requires.plain
    c.middle_fault_line.result c.in-Err.fault c.requires.small c.in-Err.ensures.work c.middle_fault_line.ensures

pub returns-in-Err-clause-left : goal.returns-in-Err-clause-left
returns-in-Err-clause-left c =
    unmade_left c.args.p.now c.args.number c.args.at c.in_ok-number.number c.in_ok-at.at c.in_ok-number.ensures c.in_ok-at.ensures c.args.purse.now c.middle.new.purse c.requires.applied c.requires.plain
    c.middle_fault_line.result c.in-Err.fault c.requires.small c.in-Err.ensures.work c.middle_fault_line.ensures
