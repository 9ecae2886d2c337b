use Rattle.std.proofs.Common.{◌≡◌, ◌+◌, ap, ◌∙◌, arith}
use Rattle.smt_names.specs.declared.body.Leaf.TheVariants as l
use Rattle.smt_names.proofs.Growing.{next-text}
use Rattle.smt_names.proofs.known.parameters.Goals as goal

pub loop-name-preserved : goal.loop-name-preserved
loop-name-preserved c = (
  omega (arith, c.loop-name.invariant.0, c.in-Some.ensures.1),
  λ outer.
      next-text c.loop-name.out.items c.push.new.self.items (record { text = c.as_slice.result; leaf = l.Slot c.loop-name.next }) 0 c.loop-name.name-index
      c.args.names.now c.name-item.result outer c.loop-name-test.true c.in_ok-push.ensures.items (c.as_slice.ensures ∙ c.name-item.is)
      (let is : c.loop-name.next ≡ 0 + c.loop-name.name-index = omega (arith, c.loop-name.invariant.0) in ap l.Slot is) (c.loop-name.invariant.1 outer),
)
