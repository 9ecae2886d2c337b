use Rattle.std.proofs.Common.{Ok, Err, sym, subst, ◌∙◌}
use Rattle.form_typed.specs.Formula.{formula}
use Rattle.itp_sides.specs.Sides.{cut_of, first_sets, other_sets}
use Rattle.pred_interpolant.specs.Made.{AreSides}
use Rattle.pred_interpolant.specs.Middle.{follows, said}
use Rattle.pred_interpolant.proofs.Ends.{above_as, above_ends, all_made, below_as, below_ends, encodes_as, found_as, unfound_ends}
use Rattle.pred_interpolant.proofs.Standing.{side_fit}
use Rattle.pred_interpolant.proofs.making.obligations.Goals as goal

pub returns-in_err-find-clause-work : goal.returns-in_err-find-clause-work
returns-in_err-find-clause-work c = unfound_ends c.args.p.now c.args.cut c.args.at _ _ _ _ c.from_residual-in_err-find.ensures.1 c.in_err-find.ensures.work

pub below-requires-clause-fit : goal.below-requires-clause-fit
below-requires-clause-fit c =
    let are = subst (AreSides c.args.p.now c.args.cut c.args.at) (sym (c.into_inner-first.ensures ∙ c.in_ok-sides.ensures)) c.in_ok-sides_at.ensures in
    side_fit c.args.p.now (first_sets (cut_of c.args.p.now c.args.cut) c.args.at) _ c.requires.formed are.first

pub returns-in_err-below-clause-work : goal.returns-in_err-below-clause-work
returns-in_err-below-clause-work c =
    let are = subst (AreSides c.args.p.now c.args.cut c.args.at) (sym (c.into_inner-first.ensures ∙ c.in_ok-sides.ensures)) c.in_ok-sides_at.ensures in
    below_ends c.args.p.now c.args.cut c.args.at _ _ c.get-2.result.now _ _ _ c.from_residual-in_err-below.ensures.1
    (found_as c.args.p.now c.args.cut c.args.at _ _ _ _ (sym (c.get-2.ensures ∙ c.in_ok-formula.ensures)) c.in_ok-find.ensures.work) are.first c.in_err-below.ensures.work

pub above-requires-clause-fit : goal.above-requires-clause-fit
above-requires-clause-fit c =
    let are = subst (AreSides c.args.p.now c.args.cut c.args.at) (sym (c.into_inner-first.ensures ∙ c.in_ok-sides.ensures)) c.in_ok-sides_at.ensures in
    side_fit c.args.p.now (other_sets (cut_of c.args.p.now c.args.cut) c.args.at) _ c.requires.formed are.second

pub returns-in_err-above-clause-work : goal.returns-in_err-above-clause-work
returns-in_err-above-clause-work c =
    let are = subst (AreSides c.args.p.now c.args.cut c.args.at) (sym (c.into_inner-first.ensures ∙ c.in_ok-sides.ensures)) c.in_ok-sides_at.ensures in
    above_ends c.args.p.now c.args.cut c.args.at _ _ c.get-2.result.now _ _ c.in_ok-below.field-0.root _ _ c.from_residual-in_err-above.ensures.1
    (found_as c.args.p.now c.args.cut c.args.at _ _ _ _ (sym (c.get-2.ensures ∙ c.in_ok-formula.ensures)) c.in_ok-find.ensures.work) are.first are.second
    c.in_ok-below.ensures.work (above_as c.args.p.now (formula c.into_inner-first.result.second) (Err c.in_err-above.field-0.0) c.get-2.result.now c.get-3.result.now (c.get-3.ensures ∙ sym c.get-2.ensures) c.in_err-above.ensures.work)

pub returns-clause-work : goal.returns-clause-work
returns-clause-work c =
    let are = subst (AreSides c.args.p.now c.args.cut c.args.at) (sym (c.into_inner-first.ensures ∙ c.in_ok-sides.ensures)) c.in_ok-sides_at.ensures in
    all_made c.args.p.now c.args.cut c.args.at _ _ c.into_inner.result _ _ c.into_inner-2.result c.in_ok-above.above
    (found_as c.args.p.now c.args.cut c.args.at _ _ _ _ (sym (c.into_inner.ensures ∙ c.in_ok-formula.ensures)) c.in_ok-find.ensures.work) are.first are.second
    (encodes_as c.args.p.now (follows (formula c.into_inner-first.result.first) (said c.args.p.now c.into_inner.result)) c.into_inner-2.result c.in_ok-below.field-0
    (sym (c.into_inner-2.ensures ∙ c.in_ok-below-2.ensures))
    (below_as c.args.p.now (formula c.into_inner-first.result.first) (Ok c.in_ok-below.field-0.root) c.into_inner.result c.get-2.result.now (c.get-2.ensures ∙ sym c.into_inner.ensures) c.in_ok-below.ensures.work))
    (above_as c.args.p.now (formula c.into_inner-first.result.second) (Ok c.in_ok-above.above.root) c.into_inner.result c.get-3.result.now (c.get-3.ensures ∙ sym c.into_inner.ensures) c.in_ok-above.ensures.work)
