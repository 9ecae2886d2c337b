use Rattle.std.proofs.Common.{◌+◌, drop, ap, ◌∙◌, arith}
use Rattle.base_budget.proofs.Charging.{drop-item, drop_all}
use Rattle.formula.specs.Tree.{forms_of}
use Rattle.form_miniscope.specs.Miniscope as moving
use Rattle.form_miniscope.proofs.Members.{outer_put, outer_skipped, member_put, member_skipped, members_end}
use Rattle.form_miniscope.proofs.moving.outer.Goals as goal
use Rattle.form_miniscope.proofs.moving.outer.Goals.{then-not-occurs+in_ok-freed+in_ok-push, else-not-occurs}

pub loop-f-preserved : goal.loop-f-preserved
loop-f-preserved c =
    let item = drop-item c.args.formulas.now c.loop-f.f-index c.f-item.result (omega arith) c.f-item.is in
    elim c.if-not-occurs.branch [
      | then-not-occurs+in_ok-freed+in_ok-push w ↦
          member_put c.loop-f.out c.if-not-occurs.out w.in_ok-freed.field-0 _ (moving.outer c.args.n (forms_of (drop (c.loop-f.f-index + 1) c.args.formulas.now))) _
          (outer_put c.args.n c.f-item.result w.in_ok-freed.field-0 _ _ c.occurs.result item c.occurs.ensures w.if-not-occurs.true w.in_ok-freed.ensures) (w.out-is ∙ w.in_ok-push.ensures.ok) c.loop-f.invariant
      | else-not-occurs w ↦
          member_skipped c.loop-f.out c.if-not-occurs.out _ (moving.outer c.args.n (forms_of (drop (c.loop-f.f-index + 1) c.args.formulas.now))) _
          (outer_skipped c.args.n c.f-item.result _ _ c.occurs.result item c.occurs.ensures w.if-not-occurs.false) w.out-is c.loop-f.invariant
    ]

pub returns : goal.returns
returns c = members_end c.loop-f.out _ _ (ap (λ l. moving.outer c.args.n (forms_of l)) (drop_all c.args.formulas.now c.loop-f.f-index (omega arith))) c.loop-f.invariant
