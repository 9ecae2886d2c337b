use Rattle.tree_checker.proofs.Redoing.{log_followed}
use Rattle.tree_checker.proofs.constraints.gamma.Goals as goal

pub returns : goal.returns
returns c = λ n. rw c.first_of-d.ensures at (log_followed _ c.args.log.now.entries c.check_exists.result n c.check_exists.ensures.work c.outcome.ensures)
