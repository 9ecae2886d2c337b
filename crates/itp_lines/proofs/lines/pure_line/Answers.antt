use Rattle.interpolant.proofs.Applications.{pure_assumed}
use Rattle.itp_sides.specs.Sides.{first_sets}
use Rattle.itp_lines.proofs.Answering.{found_left, found_line, missed_left, missed_line, not_large, some_meaning}
use Rattle.itp_lines.proofs.lines.pure_line.Goals as goal

pub between_sides-requires-clause-plain : goal.between_sides-requires-clause-plain
between_sides-requires-clause-plain c = pure_assumed c.args.p.now (first_sets c.args.cut.now c.args.at) c.requires.pure

pub interpolant_line-requires-clause-over : goal.interpolant_line-requires-clause-over
interpolant_line-requires-clause-over c = (c.in-Ok.ensures.between some_meaning).over

pub fault_line-requires : goal.fault_line-requires
fault_line-requires c = not_large c.args.p.now (record { cut = c.args.cut.now; at = c.args.at }) c.args.purse.now c.between_sides.new.purse c.in-Err.fault c.requires.small c.in-Err.ensures.work

pub returns-in-Ok-clause-line : goal.returns-in-Ok-clause-line
returns-in-Ok-clause-line c =
    found_line c.args.p.now (record { cut = c.args.cut.now; at = c.args.at }) c.args.purse.now c.between_sides.new.purse c.interpolant_line.result c.in-Ok.found c.requires.none c.in-Ok.ensures.work
    c.interpolant_line.ensures

pub returns-in-Ok-clause-left : goal.returns-in-Ok-clause-left
returns-in-Ok-clause-left c =
    found_left c.args.p.now (record { cut = c.args.cut.now; at = c.args.at }) c.args.purse.now c.between_sides.new.purse c.interpolant_line.result c.in-Ok.found c.requires.none c.in-Ok.ensures.work
    c.interpolant_line.ensures

pub returns-in-Err-clause-line : goal.returns-in-Err-clause-line
returns-in-Err-clause-line c =
    missed_line c.args.p.now (record { cut = c.args.cut.now; at = c.args.at }) c.args.purse.now c.between_sides.new.purse c.fault_line.result c.in-Err.fault c.requires.none c.requires.small
    c.in-Err.ensures.work c.fault_line.ensures

pub returns-in-Err-clause-left : goal.returns-in-Err-clause-left
returns-in-Err-clause-left c =
    missed_left c.args.p.now (record { cut = c.args.cut.now; at = c.args.at }) c.args.purse.now c.between_sides.new.purse c.fault_line.result c.in-Err.fault c.requires.none c.requires.small
    c.in-Err.ensures.work c.fault_line.ensures
