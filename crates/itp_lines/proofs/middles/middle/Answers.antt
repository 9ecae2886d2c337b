use Rattle.std.proofs.Common.{◌^◌}
use Rattle.itp_lines.proofs.Obliged.{above_sound, all_run, below_sound, cut_is_one, first_stops, not_made, obligations_budget, second_stops, stands_between}
use Rattle.itp_lines.proofs.Outcomes.{runs_budget}
use Rattle.itp_lines.proofs.middles.middle.Goals as goal

pub returns-in_err-made-clause-work : goal.returns-in_err-made-clause-work
returns-in_err-made-clause-work c = not_made c.args.p.now c.args.cut c.args.at _ _ _ _ c.from_residual.ensures.1 c.in_err-made.ensures.work

pub proved-requires-clause-sound : goal.proved-requires-clause-sound
proved-requires-clause-sound c =
    below_sound c.args.p.now c.args.cut c.args.at c.in_ok-made.made.formula c.in_ok-made.made.below c.requires.formed c.requires.alone c.requires.plain c.requires.holds c.requires.within c.in_ok-made.ensures.found
    c.in_ok-made.ensures.below

pub proved-requires-clause-budget : goal.proved-requires-clause-budget
proved-requires-clause-budget c = obligations_budget c.args.p.now c.args.cut c.args.at _ _ c.in_ok-made.made (2 ^ 32) c.in_ok-made.ensures.work c.requires.budget

pub returns-in_err-below-clause-work : goal.returns-in_err-below-clause-work
returns-in_err-below-clause-work c =
    first_stops c.args.p.now c.args.cut c.args.at _ _ _ c.in_ok-made.made _ _ c.from_residual-in_err-below.ensures.1 c.in_ok-made.ensures.work c.in_ok-made.ensures.below c.in_err-below.ensures.work

pub proved-requires-2-clause-sound : goal.proved-requires-2-clause-sound
proved-requires-2-clause-sound c =
    above_sound c.args.p.now c.args.cut c.args.at c.in_ok-made.made.formula c.in_ok-made.made.above c.requires.formed c.requires.alone c.requires.plain c.requires.holds c.requires.within c.in_ok-made.ensures.found
    c.in_ok-made.ensures.above

pub proved-requires-2-clause-budget : goal.proved-requires-2-clause-budget
proved-requires-2-clause-budget c =
    runs_budget c.in_ok-made.made.below _ _ c.in_ok-below.below (2 ^ 32) c.in_ok-below.ensures.work
    (obligations_budget c.args.p.now c.args.cut c.args.at _ _ c.in_ok-made.made (2 ^ 32) c.in_ok-made.ensures.work c.requires.budget)

pub returns-in_err-above-clause-work : goal.returns-in_err-above-clause-work
returns-in_err-above-clause-work c =
    second_stops c.args.p.now c.args.cut c.args.at _ _ _ _ c.in_ok-made.made c.in_ok-below.below _ _ c.from_residual-in_err-above.ensures.1 c.in_ok-made.ensures.work c.in_ok-made.ensures.below
    c.in_ok-made.ensures.above c.in_ok-below.ensures.work c.in_err-above.ensures.work

pub returns-clause-work : goal.returns-clause-work
returns-clause-work c =
    all_run c.args.p.now c.args.cut c.args.at _ _ _ _ c.in_ok-made.made c.in_ok-below.below c.in_ok-above.above c.in_ok-made.ensures.work c.in_ok-made.ensures.below c.in_ok-made.ensures.above
    c.in_ok-below.ensures.work c.in_ok-above.ensures.work

pub returns-clause-between : goal.returns-clause-between
returns-clause-between c = λ w.
    stands_between w c.args.p.now c.args.cut c.args.at c.in_ok-made.made.formula c.requires.formed c.requires.alone c.requires.plain (c.requires.holds w) (cut_is_one c.args.p.now c.args.cut c.requires.within)
    c.in_ok-made.ensures.found
