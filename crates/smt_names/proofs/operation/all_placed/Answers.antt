use Rattle.std.proofs.Common.{◌≡◌, ap, ◌∙◌, take_all, get_or, arith}
use Rattle.smt_names.specs.Body.{shapes_of}
use Rattle.smt_names.specs.Saying.{shapes_said}
use Rattle.smt_names.specs.declared.body.Body.TheVariants as b
use Rattle.smt_names.proofs.Saying.{placed-more}
use Rattle.smt_names.proofs.operation.all_placed.Goals as goal

pub loop-body-preserved : goal.loop-body-preserved
loop-body-preserved c = λ C D e.
    let is : get_or c.args.inner.now c.loop-body.body-index c.body-item.result ≡ b.Leaf c.in-Leaf.leaf = cc (c.in-Leaf.is, c.body-item.is) in
    ap (λ z. shapes_said D e (shapes_of z)) c.in_ok-push.ensures.ok
    ∙ placed-more C D e (shapes_said D e (shapes_of c.args.arguments.now)) c.loop-body.out c.args.inner.now c.loop-body.body-index c.body-item.result c.in-Leaf.leaf c.in-Some.argument
    c.loop-body-test.true is (c.in-Some.ensures D e) (c.loop-body.invariant C D e)

pub returns : goal.returns
returns c = λ C D e.
    c.loop-body.invariant C D e ∙ ap (λ z. shapes_said C (shapes_said D e (shapes_of c.args.arguments.now)) (shapes_of z)) (take_all c.loop-body.body-index c.args.inner.now (omega arith))
