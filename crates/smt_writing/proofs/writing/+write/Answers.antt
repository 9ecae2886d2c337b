use Rattle.std.proofs.Common.{◌≡◌, ◌*◌, ◌≤◌, ◌∙◌, length, map, take_all, subst, sym, ap, arith}
use Rattle.smt_names.specs.Body.{shape, shapes_of}
use Rattle.smt_names.specs.Saying.{calls_of, shape_said}
use Rattle.smt_writing.specs.Heights.{costs_of, height, heights, total_height}
use Rattle.smt_writing.specs.Layers.{AreLayered, heights_at, names_at}
use Rattle.smt_writing.proofs.Calling.{all-at}
use Rattle.smt_writing.proofs.Gathering.{member-height}
use Rattle.smt_writing.proofs.writing.+write.Goals as goal

pub write_all-write-requires : goal.write_all-write-requires
write_all-write-requires t c =
    let layer = c.args.places.layer in
    let bodies = c.args.places.bodies.now in
    let C = costs_of c.args.places.definitions.now in
    let e = heights_at c.args.layers.now.items layer in
    let kept = c.loop-body.invariant.0 in
    let measure : 3 * total_height (heights C e (shapes_of bodies)) ≡ t = c.decreases in
    let member = member-height C e bodies c.loop-body.body-index c.body-item.result c.loop-body-test.true in
    let this = ap (λ z. height C e (shape z)) c.body-item.is in
    let at = ap (λ z. height C (heights_at z layer) (shape c.body-item.result)) kept in
    (omega (arith, measure, member, this, at), (subst AreLayered (sym kept) c.requires.layered, subst (λ z. layer ≤ length z) (sym kept) c.requires.within))

pub write_all-returns-clause-said : goal.write_all-returns-clause-said
write_all-returns-clause-said t c =
    let D = calls_of c.args.places.definitions.now in
    let e = names_at c.args.layers.now.items c.args.places.layer in
    let bodies = c.args.places.bodies.now in
    c.loop-body.invariant.1 ∙ ap (map (λ b. shape_said D e (shape b) c.args.depth)) (take_all c.loop-body.body-index bodies (omega arith)) ∙ sym (all-at D e c.args.depth bodies)
