use Rattle.tree_branch.specs.Standing.{rule_at, standing}
use Rattle.search.proofs.Solving.{made_err, made_ok}
use Rattle.search.proofs.constraint.made.Goals as goal

pub returns-in-Ok-clause-work : goal.returns-in-Ok-clause-work
returns-in-Ok-clause-work c =
    let p = c.args.principal.now in
    made_ok (standing c.args.branch.now) (rule_at p.shape p.index) c.args.ds c.in-Ok.outcome c.in-Ok.ensures c.begin_log.ensures

pub returns-in-Err-clause-work : goal.returns-in-Err-clause-work
returns-in-Err-clause-work c =
    let p = c.args.principal.now in
    made_err (standing c.args.branch.now) (rule_at p.shape p.index) c.args.ds c.begin_log.new.self c.in-Err.fault c.in-Err.ensures c.begin_log.ensures c.cut.ensures.cause c.cut.ensures.place
