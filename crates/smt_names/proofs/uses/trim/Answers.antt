use Rattle.std.proofs.Common.{false, pos, ap, ◌∙◌, arith}
use Rattle.smt_names.specs.Body.{shapes_of}
use Rattle.smt_names.specs.Saying.{shape_said, shapes_said}
use Rattle.smt_names.specs.declared.body.Body.TheVariants as b
use Rattle.smt_names.specs.declared.body.Leaf.TheVariants as l
use Rattle.smt_names.proofs.Using.{trim-one, mark-there}
use Rattle.smt_names.proofs.uses.trim.Goals as goal

pub returns : goal.returns
returns c = λ t marked C D e n.
    ap (λ z. shape_said C (shapes_said D e (shapes_of z)) t n) c.set.ensures
    ∙ trim-one C D e t c.args.used.now c.args.arguments c.args.i (b.Leaf (l.Number (pos 0))) n marked (mark-there c.args.used.now c.args.i false c.if-i-used.false c.if-used-i.false)
    (omega (arith, c.if-i-len.false, c.len.ensures))
