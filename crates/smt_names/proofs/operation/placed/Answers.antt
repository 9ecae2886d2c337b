use Rattle.std.proofs.Common.{◌≡◌, ap, sym, ◌∙◌, get_or, arith}
use Rattle.smt_names.specs.Body.{shapes_of}
use Rattle.smt_names.specs.Saying.{leaf_said, shapes_said}
use Rattle.smt_names.specs.declared.body.Body.TheVariants as b
use Rattle.smt_names.proofs.Saying.{placed-there, placed-past}
use Rattle.smt_names.proofs.operation.placed.Goals as goal

pub returns-in-Leaf : goal.returns-in-Leaf
returns-in-Leaf c = λ D e.
    let is : get_or c.args.arguments.now c.in-Slot.i c.index-arguments-i.result ≡ b.Leaf c.in-Leaf.argument = cc (c.in-Leaf.is, c.index-arguments-i.is) in
    placed-there D e c.args.arguments.now c.in-Slot.i c.index-arguments-i.result c.in-Leaf.argument c.if-i-arguments.true is
    ∙ ap (leaf_said (shapes_said D e (shapes_of c.args.arguments.now))) (sym c.in-Slot.is)

pub returns-else-i-arguments : goal.returns-else-i-arguments
returns-else-i-arguments c = λ D e.
    placed-past D e c.args.arguments.now c.in-Slot.i (omega (arith, c.if-i-arguments.false))
    ∙ ap (leaf_said (shapes_said D e (shapes_of c.args.arguments.now))) (sym c.in-Slot.is)
