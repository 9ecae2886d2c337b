use Rattle.std.proofs.Common.{◌+◌, drop, ap, ◌∙◌, arith}
use Rattle.base_budget.proofs.Charging.{drop-item, drop_all}
use Rattle.formula.specs.Tree.{forms_of}
use Rattle.form_miniscope.specs.Miniscope as moving
use Rattle.form_miniscope.proofs.Members.{bound_put, bound_skipped, member_put, member_skipped, members_end}
use Rattle.form_miniscope.proofs.moving.bound.Goals as goal
use Rattle.form_miniscope.proofs.moving.bound.Goals.{then-occurs+in_ok-copy+in_ok-push, else-occurs}

pub loop-f-preserved : goal.loop-f-preserved
loop-f-preserved c =
    let item = drop-item c.args.formulas.now c.loop-f.f-index c.f-item.result (omega arith) c.f-item.is in
    elim c.if-occurs.branch [
      | then-occurs+in_ok-copy+in_ok-push w ↦
          member_put c.loop-f.out c.if-occurs.out w.in_ok-copy.field-0 _ (moving.bound c.args.n (forms_of (drop (c.loop-f.f-index + 1) c.args.formulas.now))) _
          (bound_put c.args.n c.f-item.result w.in_ok-copy.field-0 _ _ c.occurs.result item c.occurs.ensures w.if-occurs.true w.in_ok-copy.ensures) (w.out-is ∙ w.in_ok-push.ensures.ok) c.loop-f.invariant
      | else-occurs w ↦
          member_skipped c.loop-f.out c.if-occurs.out _ (moving.bound c.args.n (forms_of (drop (c.loop-f.f-index + 1) c.args.formulas.now))) _
          (bound_skipped c.args.n c.f-item.result _ _ c.occurs.result item c.occurs.ensures w.if-occurs.false) w.out-is c.loop-f.invariant
    ]

pub returns : goal.returns
returns c = members_end c.loop-f.out _ _ (ap (λ l. moving.bound c.args.n (forms_of l)) (drop_all c.args.formulas.now c.loop-f.f-index (omega arith))) c.loop-f.invariant
