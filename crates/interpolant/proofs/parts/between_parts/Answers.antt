use Rattle.std.proofs.Common.{length, ap, ◌∙◌}
use Rattle.formula.specs.Tree.{form}
use Rattle.form_encoding.specs.Problems.{constants}
use Rattle.interpolant.proofs.Answering.{between_done, cut_short, few_marks, marks_room, no_memory_left, not_encoded, run_done, slice_marks, strongest_done}
use Rattle.interpolant.proofs.parts.between_parts.Goals as goal

pub returns-in_err-assumed-clause-work : goal.returns-in_err-assumed-clause-work
returns-in_err-assumed-clause-work c = not_encoded c.args.p.now c.args.first.now c.args.second.now _ _ _ c.from_residual.ensures.1 c.in_err-assumed.ensures.work

pub returns-in_err-occurring-clause-work : goal.returns-in_err-occurring-clause-work
returns-in_err-occurring-clause-work c = no_memory_left c.args.p.now c.args.first.now c.args.second.now c.in_ok-assumed.assumed _ _ c.from_residual-in_err-occurring.ensures.1 c.in_ok-assumed.ensures.work

pub project-requires-clause-few : goal.project-requires-clause-few
project-requires-clause-few c = few_marks c.args.p.now (length c.as_slice-marks.result.now) c.requires.formed (ap length c.as_slice-marks.ensures.value ∙ c.in_ok-occurring.ensures.many)

pub project-requires-clause-room : goal.project-requires-clause-room
project-requires-clause-room c =
    marks_room c.args.p.now (length c.as_slice-marks.result.now) (form c.in_ok-assumed.assumed) c.requires.formed (ap length c.as_slice-marks.ensures.value ∙ c.in_ok-occurring.ensures.many) c.in_ok-assumed.ensures.small

pub returns-in_err-formula-clause-work : goal.returns-in_err-formula-clause-work
returns-in_err-formula-clause-work c =
    cut_short c.args.p.now c.args.first.now c.args.second.now c.in_ok-assumed.assumed c.as_slice-marks.result.now _ _ c.in_err-formula.field-0.0 _ c.from_residual-in_err-formula.ensures.1 c.in_ok-assumed.ensures.work
    (slice_marks (constants c.args.p.now) c.args.p.now c.args.second.now _ c.as_slice-marks.result.now c.as_slice-marks.ensures.value c.in_ok-occurring.ensures) c.in_err-formula.ensures

pub returns-clause-work : goal.returns-clause-work
returns-clause-work c =
    run_done c.args.p.now c.args.first.now c.args.second.now c.in_ok-assumed.assumed c.as_slice-marks.result.now c.in_ok-formula.formula c.in_ok-assumed.ensures.work
    (slice_marks (constants c.args.p.now) c.args.p.now c.args.second.now _ c.as_slice-marks.result.now c.as_slice-marks.ensures.value c.in_ok-occurring.ensures) c.in_ok-formula.ensures

pub returns-clause-between : goal.returns-clause-between
returns-clause-between c =
    between_done c.args.p.now c.args.first.now c.args.second.now c.in_ok-assumed.assumed c.as_slice-marks.result.now c.in_ok-formula.formula c.requires.formed c.requires.plain c.know_reduced.ensures
    c.in_ok-assumed.ensures.work (slice_marks (constants c.args.p.now) c.args.p.now c.args.second.now _ c.as_slice-marks.result.now c.as_slice-marks.ensures.value c.in_ok-occurring.ensures) c.in_ok-formula.ensures

pub returns-clause-strongest : goal.returns-clause-strongest
returns-clause-strongest c =
    strongest_done c.args.p.now c.args.first.now c.args.second.now c.in_ok-assumed.assumed c.as_slice-marks.result.now c.in_ok-formula.formula c.requires.formed c.requires.plain c.know_reduced.ensures
    c.in_ok-assumed.ensures.work (slice_marks (constants c.args.p.now) c.args.p.now c.args.second.now _ c.as_slice-marks.result.now c.as_slice-marks.ensures.value c.in_ok-occurring.ensures) c.in_ok-formula.ensures
