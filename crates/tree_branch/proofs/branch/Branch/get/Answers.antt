use Rattle.tree_branch.proofs.Held.{member_got}
use Rattle.tree_branch.proofs.branch.Branch.get.Goals as goal

pub returns : goal.returns
returns c = member_got c.args.principal.now c.args.self.now.list.present c.get.result.now c.requires c.get.ensures.value
