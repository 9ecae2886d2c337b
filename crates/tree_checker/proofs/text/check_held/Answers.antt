use Rattle.formula.specs.Tree.{form}
use Rattle.tree_checker.proofs.Held.{held_checked}
use Rattle.tree_checker.proofs.text.check_held.Goals as goal

pub returns : goal.returns
returns c = held_checked (form c.args.root.now) c.args.constants c.args.lines.now.charges c.charges-charges.result c.args.lines.now.parts c.args.lines.now.walk c.args.lines.now.rest.now _ _ c.charges-charges.ensures c.told.ensures c.check_lines.ensures.read
