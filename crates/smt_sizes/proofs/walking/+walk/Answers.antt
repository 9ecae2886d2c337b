use Rattle.std.proofs.Common.{◌≡◌, ◌+◌, ◌-◌, ◌<◌, ◌∙◌, suc, Bool, true, false, length, take, drop, get_or, replicate, refl, sym, ap, ap₂, arith, Vec, Global}
use Rattle.std.proofs.lemmas.Result.{IfOk-weaker}
use Rattle.std.proofs.lemmas.List.{length-map, length-replicate}
use Rattle.smt_names.specs.declared.body.Body.{Body}
use Rattle.smt_names.specs.declared.body.Body.TheVariants as b
use Rattle.smt_names.specs.declared.body.Leaf.TheVariants as leaf
use Rattle.smt_sizes.specs.declared.forms.Form.{Form}
use Rattle.smt_names.specs.Body.{shape, shapes_of}
use Rattle.smt_names.proofs.Folds.{shape-Leaf}
use Rattle.smt_sizes.specs.declared.linear.Linear.{Linear}
use Rattle.smt_sizes.specs.Weight.{nothing, unit, plus, times}
use Rattle.smt_sizes.specs.Weights.{Weighed}
use Rattle.smt_sizes.specs.Linear.{Sum, sum, kinds, weights, combined, value, as_kind}
use Rattle.smt_sizes.specs.Shapes.{applied, raised, shape_weighed, shapes_weighed, bound_weighed, with_variables, weighing_of}
use Rattle.smt_sizes.proofs.Algebra.{plus-settled, none-times, times-unit}
use Rattle.smt_sizes.proofs.Parts.{parts, all_parts, total_parts, member-parts, before-parts}
use Rattle.smt_sizes.proofs.Names.{and-value}
use Rattle.smt_sizes.proofs.Scopes.{form-there, forms-before, get-same}
use Rattle.smt_sizes.proofs.Shapes.{weighing-there, weighing-past}
use Rattle.smt_sizes.proofs.Adding.{adds-made, adds-count, adds-value, adds-as, adds-node, operated-value, each-done, each-step, each-more, each-none, each-first, blank-value, form-value, bound-count, kinds-front, take-less, counted, variable-names, variable-parts, closed-count, closing, not-formula, is-formula, two-clauses}
use Rattle.smt_sizes.proofs.walking.+walk.Goals.{walk_each-then-not-is_nothing+in_ok-out, walk_each-else-not-is_nothing}
use Rattle.smt_sizes.proofs.walking.+walk.Goals as goal

pub walk-returns-in-Leaf-clause-adds : goal.walk-returns-in-Leaf-clause-adds
walk-returns-in-Leaf-clause-adds t c = λ forms.
    let C = weighing_of c.args.defined.now.bodies.now in
    adds-made c.args.scope.now.items c.args.all c.and_leaf.result (λ ws. times c.args.weight (shape_weighed C ws (shape c.args.body.now)).weight) c.and_leaf.ensures.count (λ ws _ long.
    c.and_leaf.ensures.value ws long
    ∙ ap (λ z. plus (value (sum c.args.all) (weights ws)) (times c.args.weight (shape_weighed C ws z).weight)) (sym (ap shape c.in-Leaf.is ∙ shape-Leaf c.in-Leaf.leaf)))

pub walk-returns-in_ok-factors-in-Operated-clause-adds : goal.walk-returns-in_ok-factors-in-Operated-clause-adds
walk-returns-in_ok-factors-in-Operated-clause-adds t c = IfOk-weaker c.walk_each.result _ _ (λ l h forms.
    let C = weighing_of c.args.defined.now.bodies.now in
    adds-as c.args.scope.now.items c.all_kinds.new.scope.items c.args.all l _ (λ ws. times c.args.weight (shape_weighed C ws (shape c.args.body.now)).weight) (h forms) c.in_ok-found-in-Operated.ensures.same (λ ws k.
    ap (times c.args.weight) (operated-value C ws c.in-Operated.operator c.in-Operated.arguments c.as_slice-bodies.result.now c.args.body.now c.as_slice.result.now (sum c.in_ok-factors-in-Operated.factors)
    c.in-Operated.is c.as_slice-bodies.ensures (c.as_slice.ensures.value ∙ c.in_ok-found-in-Operated.ensures.of forms ws k) c.in_ok-factors-in-Operated.ensures))) c.walk_each.ensures.adds

pub walk_applied-returns-clause-adds : goal.walk_applied-returns-clause-adds
walk_applied-returns-clause-adds t c = IfOk-weaker c.walk_each.result _ _ (λ l h forms.
    let C = weighing_of c.args.defined.now.bodies.now in
    let bs = shapes_of c.args.bodies.now in
    adds-as c.args.scope.now.items c.all_kinds.new.scope.items c.args.all l _ (λ ws. times c.args.weight (value (applied (kinds (shapes_weighed C ws bs))) (weights (shapes_weighed C ws bs)))) (h forms)
    c.in_ok-found.ensures.same (λ ws k.
    ap (λ z. times c.args.weight (value z (weights (shapes_weighed C ws bs)))) (c.in_ok-factors.ensures ∙ ap applied (c.as_slice.ensures.value ∙ c.in_ok-found.ensures.of forms ws k)))) c.walk_each.ensures.adds

pub walk_call-returns-then-i-definitions-clause-adds : goal.walk_call-returns-then-i-definitions-clause-adds
walk_call-returns-then-i-definitions-clause-adds t c = λ forms.
    let C = weighing_of c.args.defined.now.bodies.now in
    adds-node c.args.scope.now.items c.args.all c.and.result c.times.result c.args.weight (λ ws. C c.args.k (shapes_weighed C ws (shapes_of c.args.bodies.now))) c.and.ensures c.times.ensures (λ ws.
    ap (λ (w : Weighed). w.weight) (weighing-past c.args.defined.now.bodies.now c.args.k (shapes_weighed C ws (shapes_of c.args.bodies.now)) c.if-i-definitions.true))

pub walk_call-returns-then-serves-clause-adds : goal.walk_call-returns-then-serves-clause-adds
walk_call-returns-then-serves-clause-adds t c = IfOk-weaker c.walk_each.result _ _ (λ l h forms.
    let C = weighing_of c.args.defined.now.bodies.now in
    let bs = shapes_of c.args.bodies.now in
    let low : c.args.k < length c.args.defined.now.bodies.now = omega (arith, c.if-i-definitions.false) in
    adds-as c.args.scope.now.items c.all_kinds.new.scope.items c.args.all l _ (λ ws. times c.args.weight (C c.args.k (shapes_weighed C ws bs)).weight) (h forms)
    c.in_ok-found.ensures.same (λ ws k.
    let xs = shapes_weighed C ws bs in
    let fits = c.serves.ensures c.if-serves.true xs (c.as_slice.ensures.value ∙ c.in_ok-found.ensures.of forms ws k) in
    let form = form-there c.args.defined.now.forms.now c.args.defined.now.bodies.now c.args.k c.index-forms-i.result forms c.if-i-forms.true low c.index-forms-i.is in
    ap (λ (f : Form). times c.args.weight (value (sum f.linear) (weights xs)))
    (get-same c.args.defined.now.forms.now c.args.k c.index-forms-i-then-serves.result c.index-forms-i.result c.if-i-forms.true ∙ sym c.index-forms-i.is)
    ∙ ap (times c.args.weight) (sym (form xs fits.0 fits.1).1) ∙ times-unit c.args.weight (C c.args.k xs).weight)) c.walk_each.ensures.adds

pub walk_call-walk-requires : goal.walk_call-walk-requires
walk_call-walk-requires t c =
    let measure : total_parts c.args.defined.now.bodies.now + (1 + all_parts (shapes_of c.args.bodies.now)) ≡ t = c.decreases in
    let low : c.args.k < length c.args.defined.now.bodies.now = omega (arith, c.if-i-definitions.false) in
    let before = before-parts c.args.defined.now.bodies.now c.args.k c.index-definitions-i.result low in
    let same = ap (λ z. parts (shape z)) c.index-definitions-i.is in
    omega (arith, measure, before, same)

pub walk_call-returns-clause-adds : goal.walk_call-returns-clause-adds
walk_call-returns-clause-adds t c = IfOk-weaker c.walk_each-2.result _ _ (λ l h forms.
    let C = weighing_of c.args.defined.now.bodies.now in
    let bs = shapes_of c.args.bodies.now in
    let low : c.args.k < length c.args.defined.now.bodies.now = omega (arith, c.if-i-definitions.false) in
    adds-as c.args.scope.now.items c.all_kinds.new.scope.items c.args.all l _ (λ ws. times c.args.weight (C c.args.k (shapes_weighed C ws bs)).weight) (h forms)
    c.in_ok-found.ensures.same (λ ws k.
    let xs = shapes_weighed C ws bs in
    let found = c.in_ok-found.ensures.of forms ws k in
    let blank = c.in_ok-none.ensures in
    let long : length c.in_ok-none.none.uses.items ≡ length xs =
    ap length blank.uses ∙ length-replicate (length c.as_slice-2.result.now) nothing ∙ ap length (c.as_slice-2.ensures.value ∙ found) ∙ length-map xs (λ (x : Weighed). x.is_formula) in
    let inner = λ (z : Body). (shape_weighed (weighing_of (take c.args.k c.args.defined.now.bodies.now)) xs (shape z)).weight in
    form-value c.args.weight (C c.args.k xs).weight (value (sum c.in_ok-factors.factors) (weights xs)) (value (sum c.in_ok-none.none) (weights xs))
    (blank-value c.in_ok-none.none (length c.as_slice-2.result.now) (weights xs) blank.uses blank.constant)
    (adds-value c.in_ok-found.found.items c.in_ok-none.none c.in_ok-factors.factors _ (c.in_ok-factors.ensures.adds (forms-before c.args.defined.now.forms.now c.args.defined.now.bodies.now c.min-before.result c.args.k forms (omega (arith, low)))) xs found long
    ∙ ap (λ z. plus (value (sum c.in_ok-none.none) (weights xs)) (times unit z)) (ap inner c.index-definitions-i.is
    ∙ sym (ap (λ (w : Weighed). w.weight) (weighing-there c.args.defined.now.bodies.now c.args.k c.index-definitions-i.result xs low)))))) c.walk_each-2.ensures.adds

pub walk_each-loop-i-init : goal.walk_each-loop-i-init
walk_each-loop-i-init t c = (
  refl,
  λ forms. ap (λ (s : Sum). length s.uses) c.and-out.ensures,
  λ forms ws h long.
      each-first (sum c.args.all) (sum c.and-out.result) c.times.result c.args.weight (weights ws) _ c.args.factors.now.constant c.args.factors.now.uses.items c.and-out.ensures c.times.ensures,
)

pub walk_each-walk-requires : goal.walk_each-walk-requires
walk_each-walk-requires t c =
    let measure : total_parts c.args.defined.now.bodies.now + all_parts (shapes_of c.args.bodies.now) ≡ t = c.decreases in
    let member = member-parts c.args.bodies.now c.loop-i.i c.index-bodies-i.result c.loop-i-test.true in
    let same = ap (λ z. parts (shape z)) c.index-bodies-i.is in
    omega (arith, measure, member, same)

pub walk_each-loop-i-preserved : goal.walk_each-loop-i-preserved
walk_each-loop-i-preserved t c =
    let C = weighing_of c.args.defined.now.bodies.now in
    let us = c.args.factors.now.uses.items in
    let bs = c.args.bodies.now in
    let i = c.loop-i.i in
    let here = c.factor-here.result in
    let before = c.loop-i.invariant in
    elim c.if-not-is_nothing.branch [
      | walk_each-then-not-is_nothing+in_ok-out w ↦ (
        ap (λ (s : Vec Bool Global). s.items) w.scope-is ∙ w.in_ok-out.ensures.same ∙ before.0,
        λ forms. ap (λ (l : Linear). length l.uses.items) w.out-is ∙ adds-count c.loop-i.scope.items c.loop-i.out w.in_ok-out.out _ (w.in_ok-out.ensures.adds forms) ∙ before.1 forms,
        λ forms ws h long.
            let x = (shape_weighed C ws (shape w.index-bodies-i.result)).weight in
            let rest = times c.args.weight (combined (drop (i + 1) us) (weights (shapes_weighed C ws (shapes_of (drop (i + 1) bs))))) in
            each-more (value (sum c.loop-i.out) (weights ws)) (value (sum c.if-not-is_nothing.out) (weights ws)) (times here x) _ rest _
            (ap (λ (l : Linear). value (sum l) (weights ws)) w.out-is
            ∙ adds-value c.loop-i.scope.items c.loop-i.out w.in_ok-out.out _ (w.in_ok-out.ensures.adds forms) ws (before.0 ∙ h) (before.1 forms ∙ long))
            (each-step C ws us bs i w.index-bodies-i.result c.args.weight c.loop-i-test.true
            ∙ ap₂ (λ z (b : Body). plus (times z (shape_weighed C ws (shape b)).weight) rest) (sym c.factor-here.ensures) (sym w.index-bodies-i.is)) (before.2 forms ws h long),
      )
      | walk_each-else-not-is_nothing w ↦ (
        ap (λ (s : Vec Bool Global). s.items) w.scope-is ∙ before.0,
        λ forms. ap (λ (l : Linear). length l.uses.items) w.out-is ∙ before.1 forms,
        λ forms ws h long.
            let y = combined (drop (i + 1) us) (weights (shapes_weighed C ws (shapes_of (drop (i + 1) bs)))) in
            ap (λ (l : Linear). plus (value (sum l) (weights ws)) (times c.args.weight y)) w.out-is
            ∙ each-none (value (sum c.loop-i.out) (weights ws)) here _ _ c.args.weight y _ (c.is_nothing.ensures w.if-not-is_nothing.false)
            (each-step C ws us bs i (b.Leaf (leaf.Constant 0)) c.args.weight c.loop-i-test.true ∙ ap (λ z. plus (times z (shape_weighed C ws (shape (get_or bs i (b.Leaf (leaf.Constant 0))))).weight) (times c.args.weight y)) (sym c.factor-here.ensures)) (before.2 forms ws h long),
      )
    ]

pub walk_each-returns-clause-adds : goal.walk_each-returns-clause-adds
walk_each-returns-clause-adds t c = λ forms.
    let C = weighing_of c.args.defined.now.bodies.now in
    let us = c.args.factors.now.uses.items in
    adds-made c.args.scope.now.items c.args.all c.loop-i.out (λ ws. times c.args.weight (value (sum c.args.factors.now) (weights (shapes_weighed C ws (shapes_of c.args.bodies.now)))))
    (c.loop-i.invariant.1 forms) (λ ws h long.
    sym (ap (plus (value (sum c.loop-i.out) (weights ws))) (each-done C ws us c.args.bodies.now c.loop-i.i c.loop-i.i c.args.weight c.loop-i-test.false)
    ∙ plus-settled c.loop-i.out.constant (combined c.loop-i.out.uses.items (weights ws)))
    ∙ c.loop-i.invariant.2 forms ws h long)

pub walk_let-returns-clause-adds : goal.walk_let-returns-clause-adds
walk_let-returns-clause-adds t c = two-clauses c.close_names.result _ _ _ (λ l uses value_is forms.
    let C = weighing_of c.args.defined.now.bodies.now in
    let bs = c.args.bodies.now in
    let opened = c.in_ok-opened.ensures in
    let count = adds-count c.open_names.new.scope.items c.in_ok-opened.opened c.in_ok-inside.inside _ (c.in_ok-inside.ensures.adds forms) in
    adds-made c.args.scope.now.items c.args.all l (λ ws. times c.args.weight (shape_weighed C (bound_weighed C ws (shapes_of bs)) (shape c.args.inner.now)).weight)
    (omega (arith, uses forms (omega (arith, count, opened.uses)), count, opened.uses)) (λ ws h long.
    let names = bound_weighed C ws (shapes_of bs) in
    value_is forms ws (omega (arith, count, opened.uses, long)) (c.in_ok-inside.ensures.same ∙ opened.kinds forms ws h)
    ∙ adds-value c.open_names.new.scope.items c.in_ok-opened.opened c.in_ok-inside.inside _ (c.in_ok-inside.ensures.adds forms) names (opened.kinds forms ws h) (omega (arith, opened.uses, long, bound-count C ws bs))
    ∙ ap (λ z. plus z (times c.args.weight (shape_weighed C names (shape c.args.inner.now)).weight)) (opened.value ws long))) c.close_names.ensures.uses c.close_names.ensures.value

pub walk_quantified-returns-then-not-formula-clause-adds : goal.walk_quantified-returns-then-not-formula-clause-adds
walk_quantified-returns-then-not-formula-clause-adds t c = λ forms.
    let C = weighing_of c.args.defined.now.bodies.now in
    let out = c.raise-out.result.0 in
    let here = c.raise-out.result.1 in
    let bodies : c.as_slice-bodies.result.now ≡ replicate c.args.count (b.Leaf (leaf.Constant 0)) = c.as_slice-bodies.ensures ∙ c.in_ok-names.ensures in
    adds-made c.args.scope.now.items c.args.all c.and.result (λ ws. times c.args.weight (raised c.args.count (as_kind true (shape_weighed C (with_variables c.args.count ws) (shape c.args.inner.now)))))
    (ap (λ (s : Sum). length s.uses) c.and.ensures ∙ ap length c.raise-out.ensures.uses) (λ ws h long.
    let names : bound_weighed C ws (shapes_of c.as_slice-bodies.result.now) ≡ with_variables c.args.count ws = ap (λ z. bound_weighed C ws (shapes_of z)) bodies ∙ variable-names C c.args.count ws in
    let x = shape_weighed C (with_variables c.args.count ws) (shape c.args.inner.now) in
    let kind : x.is_formula ≡ false = sym (ap (λ z. (shape_weighed C z (shape c.args.inner.now)).is_formula) names) ∙ sym (c.in_ok-formula.ensures.of forms ws h) ∙ c.if-not-formula.true in
    ap (λ s. value s (weights ws)) c.and.ensures ∙ and-value c.times.result (sum out) (weights ws)
    ∙ ap (plus (value (sum out) (weights ws))) (c.times.ensures ∙ ap (times here) (sym (not-formula x kind))) ∙ c.raise-out.ensures.value (as_kind true x) (weights ws))

pub walk_quantified-walk_let-requires : goal.walk_quantified-walk_let-requires
walk_quantified-walk_let-requires t c =
    let measure : total_parts c.args.defined.now.bodies.now + (2 + (c.args.count + c.args.count + parts (shape c.args.inner.now))) ≡ t = c.decreases in
    let bodies : c.as_slice-bodies.result.now ≡ replicate c.args.count (b.Leaf (leaf.Constant 0)) = c.as_slice-bodies.ensures ∙ c.in_ok-names.ensures in
    let many = ap (λ z. all_parts (shapes_of z)) bodies ∙ variable-parts c.args.count in
    omega (arith, measure, many)

pub walk_quantified-returns-clause-adds : goal.walk_quantified-returns-clause-adds
walk_quantified-returns-clause-adds t c = IfOk-weaker c.walk_let.result _ _ (λ l after forms.
    let adds = after forms in
    let C = weighing_of c.args.defined.now.bodies.now in
    let out = c.raise-out.result.0 in
    let here = c.raise-out.result.1 in
    let bodies : c.as_slice-bodies.result.now ≡ replicate c.args.count (b.Leaf (leaf.Constant 0)) = c.as_slice-bodies.ensures ∙ c.in_ok-names.ensures in
    let count = adds-count c.kind_let.new.scope.items out l _ adds in
    adds-made c.args.scope.now.items c.args.all l (λ ws. times c.args.weight (raised c.args.count (as_kind true (shape_weighed C (with_variables c.args.count ws) (shape c.args.inner.now)))))
    (count ∙ ap length c.raise-out.ensures.uses) (λ ws h long.
    let names : bound_weighed C ws (shapes_of c.as_slice-bodies.result.now) ≡ with_variables c.args.count ws = ap (λ z. bound_weighed C ws (shapes_of z)) bodies ∙ variable-names C c.args.count ws in
    let x = shape_weighed C (with_variables c.args.count ws) (shape c.args.inner.now) in
    let kind : x.is_formula ≡ true = sym (ap (λ z. (shape_weighed C z (shape c.args.inner.now)).is_formula) names) ∙ sym (c.in_ok-formula.ensures.of forms ws h) ∙ c.if-not-formula.false in
    adds-value c.kind_let.new.scope.items out l _ adds ws (c.in_ok-formula.ensures.same ∙ h) (ap length c.raise-out.ensures.uses ∙ long)
    ∙ ap (λ z. plus (value (sum out) (weights ws)) (times here z)) (ap (λ z. (shape_weighed C z (shape c.args.inner.now)).weight) names ∙ sym (is-formula x kind))
    ∙ c.raise-out.ensures.value (as_kind true x) (weights ws))) c.walk_let.ensures.adds

pub close_names-walk-requires : goal.close_names-walk-requires
close_names-walk-requires t c =
    let measure : total_parts c.args.defined.now.bodies.now + all_parts (shapes_of c.args.bodies.now) ≡ t = c.decreases in
    let low : c.loop-i.i - 1 < length c.args.bodies.now = omega (arith, c.loop-i.invariant.0, c.loop-i-test.true) in
    let member = member-parts c.args.bodies.now (c.loop-i.i - 1) c.index-bodies-i.result low in
    let same = ap (λ z. parts (shape z)) c.index-bodies-i.is in
    omega (arith, measure, member, same)

pub close_names-loop-i-preserved-then-not-is_nothing : goal.close_names-loop-i-preserved-then-not-is_nothing
close_names-loop-i-preserved-then-not-is_nothing t c =
    let C = weighing_of c.args.defined.now.bodies.now in
    let bs = c.args.bodies.now in
    let i = c.loop-i.i in
    let j = i - 1 in
    let base = c.saturating_sub-base.result in
    let before = c.loop-i.invariant in
    let rest = c.close-rest.result.0 in
    let here = c.close-rest.result.1 in
    let next : suc j ≡ i = omega (arith, c.loop-i-test.true) in
    let at : c.saturating_add.result ≡ base + j = omega (arith, c.saturating_add.ensures) in
    let shorter : c.truncate.new.self.items ≡ take (base + j) c.args.scope.now.items =
    c.truncate.ensures.items ∙ ap (λ k. take k c.loop-i.scope.items) at ∙ take-less base i j c.args.scope.now.items c.loop-i.scope.items (omega arith) before.2 in (
      omega (arith, before.0),
      before.1,
      c.in_ok-out.ensures.same ∙ shorter,
      λ forms le. omega (arith, before.3 forms le, next, adds-count c.truncate.new.self.items rest c.in_ok-out.out _ (c.in_ok-out.ensures.adds forms), closed-count c.loop-i.out rest here c.close-rest.ensures.uses (omega (arith, before.3 forms le, next, le))),
      λ forms ws long h.
          let names = bound_weighed C ws (shapes_of (take j bs)) in
          let uses : length c.loop-i.out.uses.items ≡ length ws + i = omega (arith, before.3 forms (omega (arith, long)), long) in
          let apart = closed-count c.loop-i.out rest here c.close-rest.ensures.uses (omega (arith, uses, next)) in
          adds-value c.truncate.new.self.items rest c.in_ok-out.out _ (c.in_ok-out.ensures.adds forms) names
          (shorter ∙ kinds-front C ws bs c.args.scope.now.items base j (omega (arith, before.0)) h before.1)
          (omega (arith, uses, next, apart, bound-count C ws (take j bs), counted j bs (omega (arith, before.0))))
          ∙ ap (λ z. plus (value (sum rest) (weights names)) (times here (shape_weighed C names (shape z)).weight)) c.index-bodies-i.is
          ∙ sym (closing C ws bs j i c.index-bodies-i.result c.loop-i.out rest here next before.0 c.close-rest.ensures.uses c.close-rest.ensures.constant uses) ∙ before.4 forms ws long h,
    )

pub close_names-loop-i-preserved : goal.close_names-loop-i-preserved
close_names-loop-i-preserved t c =
    let C = weighing_of c.args.defined.now.bodies.now in
    let bs = c.args.bodies.now in
    let i = c.loop-i.i in
    let j = i - 1 in
    let base = c.saturating_sub-base.result in
    let before = c.loop-i.invariant in
    let rest = c.close-rest.result.0 in
    let here = c.close-rest.result.1 in
    let next : suc j ≡ i = omega (arith, c.loop-i-test.true) in
    let at : c.saturating_add.result ≡ base + j = omega (arith, c.saturating_add.ensures) in (
      omega (arith, before.0),
      before.1,
      c.truncate.ensures.items ∙ ap (λ k. take k c.loop-i.scope.items) at ∙ take-less base i j c.args.scope.now.items c.loop-i.scope.items (omega arith) before.2,
      λ forms le. omega (arith, before.3 forms le, next, closed-count c.loop-i.out rest here c.close-rest.ensures.uses (omega (arith, before.3 forms le, next, le))),
      λ forms ws long h.
          let names = bound_weighed C ws (shapes_of (take j bs)) in
          let x = (shape_weighed C names (shape (get_or bs j (b.Leaf (leaf.Constant 0))))).weight in
          let uses : length c.loop-i.out.uses.items ≡ length ws + i = omega (arith, before.3 forms (omega (arith, long)), long) in
          sym (ap (λ z. plus (value (sum rest) (weights names)) (times z x)) (c.is_nothing.ensures c.if-not-is_nothing.false) ∙ ap (plus (value (sum rest) (weights names))) (none-times x)
          ∙ plus-settled rest.constant (combined rest.uses.items (weights names)))
          ∙ sym (closing C ws bs j i (b.Leaf (leaf.Constant 0)) c.loop-i.out rest here next before.0 c.close-rest.ensures.uses c.close-rest.ensures.constant uses) ∙ before.4 forms ws long h,
    )
