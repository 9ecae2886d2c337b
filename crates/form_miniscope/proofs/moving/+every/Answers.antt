use Rattle.std.proofs.Common.{◌+◌, drop, sym, ap, ◌∙◌, arith}
use Rattle.base_budget.proofs.Charging.{drop-item, drop_all}
use Rattle.formula.specs.Form.{and_form}
use Rattle.formula.specs.Tree.{forms_of}
use Rattle.form_miniscope.specs.Miniscope as moving
use Rattle.form_miniscope.proofs.Members.{member_put, members_end}
use Rattle.form_miniscope.proofs.moving.+every.Goals as goal

pub all_every-loop-f-preserved : goal.all_every-loop-f-preserved
all_every-loop-f-preserved t c =
    let item = drop-item c.args.formulas.now c.loop-f.f-index c.f-item.result (omega arith) c.f-item.is in
    member_put c.loop-f.out c.push.new.self c.in_ok-every.field-0 _ (moving.all_every c.args.n (forms_of (drop (c.loop-f.f-index + 1) c.args.formulas.now))) _
    (ap (λ l. moving.all_every c.args.n (forms_of l)) item ∙ ap (λ z. and_form z (moving.all_every c.args.n (forms_of (drop (c.loop-f.f-index + 1) c.args.formulas.now)))) (sym c.in_ok-every.ensures)) c.in_ok-push.ensures.ok c.loop-f.invariant

pub all_every-returns : goal.all_every-returns
all_every-returns t c = members_end c.loop-f.out _ _ (ap (λ l. moving.all_every c.args.n (forms_of l)) (drop_all c.args.formulas.now c.loop-f.f-index (omega arith))) c.loop-f.invariant
