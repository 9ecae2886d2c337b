use Rattle.std.proofs.Common.{◌≡◌, ◌<◌, ◌+◌, ◌∙◌, ◌++◌, ◌∷◌, [], suc, map, take, take_all, length, get_or, sym, ap, ap₂, arith}
use Rattle.std.proofs.lemmas.Result.{IfOk-weaker}
use Rattle.smt_names.specs.Body.{shape, shapes_of}
use Rattle.smt_sizes.specs.declared.forms.Form.{Form}
use Rattle.smt_sizes.specs.Linear.{kinds}
use Rattle.smt_sizes.specs.Shapes.{shape_weighed, bound_weighed, weighing_of}
use Rattle.smt_sizes.specs.Weights.{Weighed}
use Rattle.smt_sizes.proofs.Parts.{parts, all_parts, total_parts, member-parts, before-parts}
use Rattle.smt_sizes.proofs.Scopes.{each-kind, bound-more, kinds-more, form-there, forms-before, get-same, front-kept}
use Rattle.smt_sizes.proofs.Shapes.{weighing-there, weighing-past}
use Rattle.smt_sizes.proofs.kinds.+kind.Goals as goal

pub all_kinds-kind-requires : goal.all_kinds-kind-requires
all_kinds-kind-requires t c =
    let measure : total_parts c.args.defined.now.bodies.now + all_parts (shapes_of c.args.bodies.now) ≡ t = c.decreases in
    let member = member-parts c.args.bodies.now c.loop-body.body-index c.body-item.result c.loop-body-test.true in
    let same = ap (λ z. parts (shape z)) c.body-item.is in
    omega (arith, measure, member, same)

pub all_kinds-returns-clause-of : goal.all_kinds-returns-clause-of
all_kinds-returns-clause-of t c = λ forms ws h.
    let C = weighing_of c.args.defined.now.bodies.now in
    c.loop-body.invariant.1 forms ws (c.loop-body.invariant.0 ∙ h)
    ∙ ap (map (λ b. (shape_weighed C ws (shape b)).is_formula)) (take_all c.loop-body.body-index c.args.bodies.now (omega arith)) ∙ sym (each-kind C ws c.args.bodies.now)

pub kind_call-returns-then-i-definitions : goal.kind_call-returns-then-i-definitions
kind_call-returns-then-i-definitions t c = λ forms xs h. sym (ap (λ (w : Weighed). w.is_formula) (weighing-past c.args.defined.now.bodies.now c.args.k xs c.if-i-definitions.true))

pub kind_call-returns-then-serves : goal.kind_call-returns-then-serves
kind_call-returns-then-serves t c = λ forms xs h.
    let fits = c.serves.ensures c.if-serves.true xs (c.as_slice.ensures.value ∙ h) in
    let form = form-there c.args.defined.now.forms.now c.args.defined.now.bodies.now c.args.k c.index-forms-i.result forms c.if-i-forms.true (omega (arith, c.if-i-definitions.false)) c.index-forms-i.is in
    ap (λ (f : Form). f.is_formula) (get-same c.args.defined.now.forms.now c.args.k c.index-forms-i-then-serves.result c.index-forms-i.result c.if-i-forms.true ∙ sym c.index-forms-i.is) ∙ sym (form xs fits.0 fits.1).0

pub kind_call-kind-requires : goal.kind_call-kind-requires
kind_call-kind-requires t c =
    let measure : total_parts c.args.defined.now.bodies.now ≡ t = c.decreases in
    let low : c.args.k < length c.args.defined.now.bodies.now = omega (arith, c.if-i-definitions.false) in
    let before = before-parts c.args.defined.now.bodies.now c.args.k c.index-definitions-i.result low in
    let same = ap (λ z. parts (shape z)) c.index-definitions-i.is in
    omega (arith, measure, before, same)

pub kind_call-returns : goal.kind_call-returns
kind_call-returns t c = IfOk-weaker c.kind.result _ _ (λ b h forms xs is.
    let low : c.args.k < length c.args.defined.now.bodies.now = omega (arith, c.if-i-definitions.false) in
    h (forms-before c.args.defined.now.forms.now c.args.defined.now.bodies.now c.min-before.result c.args.k forms (omega (arith, low))) xs is
    ∙ ap (λ z. (shape_weighed (weighing_of (take c.args.k c.args.defined.now.bodies.now)) xs (shape z)).is_formula) c.index-definitions-i.is
    ∙ sym (ap (λ (w : Weighed). w.is_formula) (weighing-there c.args.defined.now.bodies.now c.args.k c.index-definitions-i.result xs low))) c.kind.ensures.of

pub kind_let-kind-requires : goal.kind_let-kind-requires
kind_let-kind-requires t c =
    let measure : total_parts c.args.defined.now.bodies.now + suc (all_parts (shapes_of c.args.bodies.now) + parts (shape c.args.inner.now)) ≡ t = c.decreases in
    let member = member-parts c.args.bodies.now c.loop-body.body-index c.body-item.result c.loop-body-test.true in
    let same = ap (λ z. parts (shape z)) c.body-item.is in
    omega (arith, measure, member, same)

pub kind_let-loop-body-preserved : goal.kind_let-loop-body-preserved
kind_let-loop-body-preserved t c =
    let pushed = c.in_ok-push.ensures.items in
    let same = c.in_ok-one.ensures.same in
    let i = c.loop-body.body-index in (
      c.loop-body.invariant.0,
      ap (take c.len-count.result) pushed ∙ front-kept c.len-count.result c.kind.new.scope.items c.args.scope.now.items (c.in_ok-one.one ∷ []) c.loop-body.invariant.0
          (ap (take c.len-count.result) same ∙ c.loop-body.invariant.1),
      λ forms ws h.
          let C = weighing_of c.args.defined.now.bodies.now in
          let before = c.loop-body.invariant.2 forms ws h in
          let names = bound_weighed C ws (shapes_of (take i c.args.bodies.now)) in
          pushed
          ∙ ap₂ (λ x y. x ++ y ∷ []) (same ∙ before) (c.in_ok-one.ensures.of forms names before ∙ ap (λ z. (shape_weighed C names (shape z)).is_formula) c.body-item.is)
          ∙ sym (ap kinds (bound-more C ws c.args.bodies.now i c.body-item.result c.loop-body-test.true) ∙ kinds-more names (shape_weighed C names (shape (get_or c.args.bodies.now i c.body-item.result)))),
    )
