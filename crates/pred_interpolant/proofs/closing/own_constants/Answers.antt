use Rattle.std.proofs.Common.{length, ap, sym, subst, ◌∙◌}
use Rattle.pri_typing.specs.Problems.{assumed_by}
use Rattle.form_encoding.specs.Problems.{constants}
use Rattle.function_encoding.specs.Marks.{AreMarks}
use Rattle.interpolant.proofs.Answering.{few_marks}
use Rattle.pred_interpolant.proofs.Tables.{few_own, if_ok, marked_own}
use Rattle.pred_interpolant.proofs.closing.own_constants.Goals as goal

pub returns-clause-own : goal.returns-clause-own
returns-clause-own c =
    let p = c.args.p.now in
    if_ok c.only_first.result _ _ (λ v k.
    marked_own (constants p) (assumed_by p c.args.first.now) (assumed_by p c.args.second.now) v.items c.deref.result.now c.deref-2.result.now
    (subst (AreMarks (constants p) (assumed_by p c.args.first.now)) (sym c.deref.ensures.value) c.in_ok-own.ensures)
    (subst (AreMarks (constants p) (assumed_by p c.args.second.now)) (sym c.deref-2.ensures.value) c.in_ok-others.ensures) k) c.only_first.ensures

pub returns-clause-few : goal.returns-clause-few
returns-clause-few c =
    let p = c.args.p.now in
    if_ok c.only_first.result _ _ (λ v k.
    few_own _ v.items (length c.deref.result.now) k (few_marks p (length c.deref.result.now) c.requires (ap length c.deref.ensures.value ∙ c.in_ok-own.ensures.many))) c.only_first.ensures
