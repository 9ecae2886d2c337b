use Rattle.std.proofs.Common.{◌≡◌, refl, ap, sym, subst, ◌∙◌, ◌++◌, take_all, get_or, arith}
use Rattle.smt_names.specs.Body.{shapes_of}
use Rattle.smt_names.specs.Saying.{shapes_said}
use Rattle.smt_names.specs.Scopes.{IsLeafWithin}
use Rattle.smt_names.specs.declared.body.Body.TheVariants as b
use Rattle.smt_names.proofs.Behind.{within-more}
use Rattle.smt_names.proofs.binding.are_within.Goals as goal

pub loop-body-preserved : goal.loop-body-preserved
loop-body-preserved c = λ D e behind long.
    let is : get_or c.args.bodies.now c.loop-body.body-index c.body-item.result ≡ b.Leaf c.in-Leaf.leaf = cc (c.in-Leaf.is, c.body-item.is) in
    let low : IsLeafWithin c.args.count c.in-Leaf.leaf = c.if-not-is_within.ensures refl in
    within-more D e behind c.args.bodies.now c.loop-body.body-index c.body-item.result c.in-Leaf.leaf c.loop-body-test.true is
    (subst (λ z. IsLeafWithin z c.in-Leaf.leaf) (sym long) low) (c.loop-body.invariant D e behind long)

pub returns : goal.returns
returns c = λ _ D e behind long.
    let all = take_all c.loop-body.body-index c.args.bodies.now (omega arith) in
    ap (λ z. shapes_said D (e ++ behind) (shapes_of z)) (sym all) ∙ c.loop-body.invariant D e behind long ∙ ap (λ z. shapes_said D e (shapes_of z)) all
