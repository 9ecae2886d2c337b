use Rattle.tree_checker.proofs.Dues.{row_told}
use Rattle.tree_checker.proofs.frames.row.Goals as goal

pub returns : goal.returns
returns c = λ log k. row_told c.args.node.now c.told_width-premises.result log k (rw c.len.ensures at c.told_width-premises.ensures)
