use Rattle.formula.specs.Tree.{form}
use Rattle.model_formulas.proofs.Chosen.{guard_never}
use Rattle.model_formulas.proofs.choosing.row_guard.Goals as goal

pub returns-then-is_false : goal.returns-then-is_false
returns-then-is_false c = guard_never c.args.arguments.now c.args.before.now c.args.xs.now (form c.in_ok-when.when) c.in_ok-when.ensures (c.is_false.ensures c.if-is_false.true)
