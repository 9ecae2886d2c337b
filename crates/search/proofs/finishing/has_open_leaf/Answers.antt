use Rattle.tree_branch.specs.Standing.{rule_at, standing}
use Rattle.search.proofs.Growing.{inner_open, leaf_open}
use Rattle.search.proofs.finishing.has_open_leaf.Goals as goal

pub returns-then-is_empty : goal.returns-then-is_empty
returns-then-is_empty c =
    let p = c.args.principal.now in
    leaf_open (standing c.args.branch.now) (rule_at p.shape p.index) c.args.children.now c.has_open_member.result c.is_empty.result c.is_empty.ensures c.if-is_empty.true c.has_open_member.ensures

pub returns-else-is_empty : goal.returns-else-is_empty
returns-else-is_empty c =
    let p = c.args.principal.now in
    inner_open (standing c.args.branch.now) (rule_at p.shape p.index) c.args.children.now c.is_empty.result c.is_empty.ensures c.if-is_empty.false
