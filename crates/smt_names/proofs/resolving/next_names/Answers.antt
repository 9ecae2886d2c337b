use Rattle.std.proofs.Common.{ap, ◌∙◌, arith}
use Rattle.smt_terms.specs.declared.term.Variable.{Variable}
use Rattle.smt_names.specs.declared.body.Leaf.TheVariants as l
use Rattle.smt_names.proofs.Reading.{next-name}
use Rattle.smt_names.proofs.resolving.next_names.Goals as goal

pub loop-variable-preserved : goal.loop-variable-preserved
loop-variable-preserved c = (
  omega (arith, c.loop-variable.invariant.0, c.in-Some.ensures.1),
  λ outer.
      next-name c.loop-variable.names.items c.push.new.self.items (record { text = c.as_slice.result; leaf = l.Slot c.loop-variable.next }) c.args.count c.loop-variable.variable-index
      c.args.variables.now c.variable-item.result outer c.loop-variable-test.true c.in_ok-push.ensures.items (c.as_slice.ensures ∙ ap (λ (v : Variable). v.text) c.variable-item.is)
      (ap l.Slot c.loop-variable.invariant.0) (c.loop-variable.invariant.1 outer),
)
