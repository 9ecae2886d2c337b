use Rattle.std.proofs.Common.{◌&&◌, ap, sym, ◌∙◌, arith}
use Rattle.form_naming.specs.Naming.{is_pure_but}
use Rattle.base_budget.proofs.Charging.{drop-item, drop_all}
use Rattle.formula.specs.Form.{universal, existential}
use Rattle.formula.specs.Tree.{form}
use Rattle.formula.proofs.Building.{form-Forall, form-Exists}
use Rattle.clause_root.proofs.Members.{if_same, forall_attempted, exists_attempted, forall_kept, one_prepared, none_left, first_over, first_depth}
use Rattle.clause_root.proofs.preparing.+preparing.Goals as goal

pub prepared-returns-then-is_attempted : goal.prepared-returns-then-is_attempted
prepared-returns-then-is_attempted t c =
    if_same c.unquantified.result _ _ _ (forall_attempted c.args.inside c.args.names c.args.left.now (form c.args.f.now) (form c.get.result.now)
    ((ap form c.in-Forall.is ∙ form-Forall _) ∙ ap (λ z. universal (form z)) (sym c.get.ensures)) (sym c.is_attempted.ensures ∙ c.if-is_attempted.true)) c.unquantified.ensures

pub prepared-returns-then-is_pure_but : goal.prepared-returns-then-is_pure_but
prepared-returns-then-is_pure_but t c =
    if_same c.unquantified-then-is_pure_but.result _ _ _ (exists_attempted c.args.inside c.args.names c.args.left.now (form c.args.f.now) (form c.get-in-Exists.result.now)
    ((ap form c.in-Exists.is ∙ form-Exists _) ∙ ap (λ z. existential (form z)) (sym c.get-in-Exists.ensures)) (sym c.is_pure_but.ensures ∙ c.if-is_pure_but.true)) c.unquantified-then-is_pure_but.ensures

pub prepared-returns-in_ok-new-in-Forall : goal.prepared-returns-in_ok-new-in-Forall
prepared-returns-in_ok-new-in-Forall t c =
    let same = c.get.ensures ∙ sym c.get-in-Forall.ensures in
    (λ i. ((form-Forall c.in_ok-new-in-Forall.field-0 ∙ ap (λ z. universal (form z)) c.in_ok-new-in-Forall.ensures) i, c.prepared.new.left))
    ∙ forall_kept c.args.inside c.args.names c.args.left.now c.prepared.new.left (form c.args.f.now) (form c.get-in-Forall.result.now) (form c.in_ok-body-in-Forall.body)
    ((ap form c.in-Forall.is ∙ form-Forall _) ∙ ap (λ z. universal (form z)) (sym c.get-in-Forall.ensures))
    (ap (λ z. c.args.inside && is_pure_but c.args.names (form z)) (sym same) ∙ sym c.is_attempted.ensures ∙ c.if-is_attempted.false) c.in_ok-body-in-Forall.ensures

pub prepared_all-loop-f-preserved : goal.prepared_all-loop-f-preserved
prepared_all-loop-f-preserved t c =
    let item = drop-item c.args.formulas.now c.loop-f.f-index c.f-item.result (omega arith) c.f-item.is in
    record {
      is = one_prepared c.args.inside c.args.names c.loop-f.left c.prepared.new.left c.loop-f.out c.push.new.self c.f-item.result c.in_ok-prepared.field-0 _ _ _ item c.in_ok-push.ensures.ok c.in_ok-prepared.ensures c.loop-f.invariant.is;
      over = (first_over c.args.names _ _ _ item c.loop-f.invariant.over).1;
      room = omega (arith, first_depth _ _ _ item, c.loop-f.invariant.room);
    }

pub prepared_all-returns : goal.prepared_all-returns
prepared_all-returns t c = none_left c.args.inside c.args.names c.loop-f.left c.loop-f.out _ _ (drop_all c.args.formulas.now c.loop-f.f-index (omega arith)) c.loop-f.invariant.is
