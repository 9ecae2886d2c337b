use Rattle.std.proofs.Common.{◌+◌, drop, sym, ap, ◌∙◌, arith}
use Rattle.base_budget.proofs.Charging.{drop-item, drop_all}
use Rattle.formula.specs.Form.{and_form}
use Rattle.formula.specs.Tree.{form, forms_of}
use Rattle.form_miniscope.specs.Lowering as lowering
use Rattle.form_miniscope.proofs.Lowering.{neither}
use Rattle.form_miniscope.proofs.Members.{member_put, members_end}
use Rattle.form_miniscope.proofs.freeing.+freeing.Goals as goal

pub all_freed-loop-f-preserved : goal.all_freed-loop-f-preserved
all_freed-loop-f-preserved t c =
    let item = drop-item c.args.formulas.now c.loop-f.f-index c.f-item.result (omega arith) c.f-item.is in
    record {
      is = member_put c.loop-f.out c.push.new.self c.in_ok-freed.field-0 _ (lowering.all_freed c.args.n (forms_of (drop (c.loop-f.f-index + 1) c.args.formulas.now))) _
          (ap (λ l. lowering.all_freed c.args.n (forms_of l)) item ∙ ap (λ z. and_form z (lowering.all_freed c.args.n (forms_of (drop (c.loop-f.f-index + 1) c.args.formulas.now)))) (sym c.in_ok-freed.ensures)) c.in_ok-push.ensures.ok
          c.loop-f.invariant.is;
      free = (neither (lowering.occurs c.args.n (form c.f-item.result)) _ (sym (ap (λ l. lowering.occurs_in c.args.n (forms_of l)) item) ∙ c.loop-f.invariant.free)).1;
    }

pub all_freed-returns : goal.all_freed-returns
all_freed-returns t c =
    members_end c.loop-f.out _ _ (ap (λ l. lowering.all_freed c.args.n (forms_of l)) (drop_all c.args.formulas.now c.loop-f.f-index (omega arith))) c.loop-f.invariant.is
