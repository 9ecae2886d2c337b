use Rattle.std.proofs.Common.{refl}
use Rattle.tree_branch.specs.Standing.{rule_at, standing}
use Rattle.search.proofs.Growing.{finish_built, finish_cut, finish_memory}
use Rattle.search.proofs.finishing.finish.Goals as goal

pub returns-in_err-constraint : goal.returns-in_err-constraint
returns-in_err-constraint c = λ n xs grown.
    let p = c.args.principal.now in
    finish_cut n (standing c.args.branch.now) (rule_at p.shape p.index) xs c.args.children.constraints c.from_residual.result (c.back.ensures n) grown.constraints c.from_residual.ensures.1 c.in_err-constraint.ensures.work

pub returns-in_err-root : goal.returns-in_err-root
returns-in_err-root c = λ n xs grown.
    let p = c.args.principal.now in
    finish_memory n (standing c.args.branch.now) (rule_at p.shape p.index) xs c.args.children.constraints (c.in_ok-constraint.constraint, c.in_ok-constraint.log) c.from_residual-in_err-root.result (c.back.ensures n) grown.constraints
    c.from_residual-in_err-root.ensures.1 c.in_ok-constraint.ensures.work

pub returns : goal.returns
returns c = λ n xs grown.
    let p = c.args.principal.now in
    finish_built n (standing c.args.branch.now) (rule_at p.shape p.index) xs c.args.children.constraints c.args.keeps _ (c.in_ok-constraint.constraint, c.in_ok-constraint.log) (c.back.ensures n) grown.constraints c.in_ok-constraint.ensures.work
    c.in_ok-constraint.ensures.nodes refl (rw c.rule.ensures at (c.in_ok-root.ensures xs grown.nodes))
    (c.has_open_leaf-has_open.ensures c.args.keeps xs c.in_ok-constraint.log.entries c.in_ok-constraint.constraint grown)
