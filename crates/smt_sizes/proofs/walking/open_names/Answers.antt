use Rattle.std.proofs.Common.{◌+◌, ◌++◌, ◌∷◌, [], ◌∙◌, length, take, get_or, sym, ap, ap₂, length-append, arith}
use Rattle.smt_names.specs.Body.{shape, shapes_of}
use Rattle.smt_sizes.specs.Weight.{nothing, plus}
use Rattle.smt_sizes.specs.Linear.{kinds, weights, combined}
use Rattle.smt_sizes.specs.Shapes.{shape_weighed, bound_weighed, weighing_of}
use Rattle.smt_sizes.proofs.Names.{open-value}
use Rattle.smt_sizes.proofs.Scopes.{bound-more, kinds-more, front-kept}
use Rattle.smt_sizes.proofs.Adding.{bound-count, counted}
use Rattle.smt_sizes.proofs.walking.open_names.Goals as goal

pub loop-body-preserved : goal.loop-body-preserved
loop-body-preserved c =
    let i = c.loop-body.body-index in
    let bs = c.args.bodies.now in
    let C = weighing_of c.args.defined.now.bodies.now in
    let before = c.loop-body.invariant in
    let pushed = c.in_ok-push.ensures.items in
    let same = c.in_ok-one.ensures.same in
    let opened = c.in_ok-out.ensures.uses in (
      ap (take (length c.args.scope.now.items)) pushed
          ∙ front-kept (length c.args.scope.now.items) c.kind.new.scope.items c.args.scope.now.items (c.in_ok-one.one ∷ []) (omega arith) (ap (take (length c.args.scope.now.items)) same ∙ before.0),
      omega (arith, before.1, ap length pushed, ap length same, length-append c.kind.new.scope.items (c.in_ok-one.one ∷ [])),
      λ forms ws h.
          let names = bound_weighed C ws (shapes_of (take i bs)) in
          let so_far = before.2 forms ws h in
          pushed
          ∙ ap₂ (λ x y. x ++ y ∷ []) (same ∙ so_far) (c.in_ok-one.ensures.of forms names so_far ∙ ap (λ z. (shape_weighed C names (shape z)).is_formula) c.body-item.is)
          ∙ sym (ap kinds (bound-more C ws bs i c.body-item.result c.loop-body-test.true) ∙ kinds-more names (shape_weighed C names (shape (get_or bs i c.body-item.result)))),
      omega (arith, before.3, ap length opened, length-append c.loop-body.out.uses.items (nothing ∷ [])),
      λ ws long.
          let names = bound_weighed C ws (shapes_of (take i bs)) in
          let x = shape_weighed C names (shape (get_or bs i c.body-item.result)) in
          ap₂ (λ k us. plus k (combined us (weights (bound_weighed C ws (shapes_of (take (i + 1) bs)))))) c.in_ok-out.ensures.constant opened
          ∙ ap (λ z. plus c.loop-body.out.constant (combined (c.loop-body.out.uses.items ++ nothing ∷ []) (weights z))) (bound-more C ws bs i c.body-item.result c.loop-body-test.true)
          ∙ open-value c.loop-body.out.constant c.loop-body.out.uses.items names x (omega (arith, before.3, long, bound-count C ws (take i bs), counted i bs (omega arith)))
          ∙ before.4 ws long,
    )
