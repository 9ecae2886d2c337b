use Rattle.pri_typing.proofs.Cutting.{implies_fault}
use Rattle.pri_typing.proofs.parts.+components.Goals as goal

pub formula_fault-returns-in_ok-second-in-Implies : goal.formula_fault-returns-in_ok-second-in-Implies
formula_fault-returns-in_ok-second-in-Implies t c = implies_fault c.args.expr.now c.in-Implies.left c.in-Implies.right c.get-then-plus.result.now c.get-then-plus-2.result.now c.args.plus
    c.in-Implies.is c.if-plus.true c.get-then-plus.ensures c.get-then-plus-2.ensures c.in_ok-first-in-Implies.ensures c.in_ok-second-in-Implies.ensures c.earlier_of.ensures
