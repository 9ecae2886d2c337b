use Rattle.tree_checker.proofs.Dues.{behind_is}
use Rattle.tree_checker.proofs.frames.behind_row.Goals as goal

pub returns : goal.returns
returns c = behind_is c.args.node.now _ _ _ c.as_slice.ensures c.log_of.ensures c.as_slice-2.ensures
