use Rattle.std.proofs.Common.{◌+◌, ◌≤◌, ◌^◌, sym, subst}
use Rattle.formula.specs.Form.{Form}
use Rattle.formula.specs.Sizes.{depth}
use Rattle.formula.specs.Tree.{form}
use Rattle.base_budget.proofs.Advancing.{followed_later}
use Rattle.base_budget.proofs.Charging.{worked_value}
use Rattle.sequent.specs.Views.{sequent_of}
use Rattle.pred_unify.specs.Reading.{sequent_at}
use Rattle.pred_unify.specs.Pairs.{closing_of}
use Rattle.elim_check.specs.Reading.{reading}
use Rattle.tree_checker.proofs.Redoing.{closed_err, closed_ok, in_its_log, log_followed}
use Rattle.tree_checker.proofs.constraints.redo_leaf.Goals as goal

pub check_log-requires : goal.check_log-requires
check_log-requires c = subst (λ (f : Form). c.args.leaf.now.count + depth f ≤ 2 ^ 32) (sym (worked_value c.in-Ok.ensures.works)) c.requires.depth

pub returns-in-Ok-clause-work : goal.returns-in-Ok-clause-work
returns-in-Ok-clause-work c = λ n. in_its_log _ c.outcome.result n
    (closed_ok form (closing_of (sequent_of (sequent_at c.args.leaf.now))) c.args.leaf.now.count c.args.log.now.entries _ n c.in-Ok.ensures
    (log_followed (reading c.args.leaf.now.count (form c.in-Ok.f)) c.args.log.now.entries c.check_log.result n c.check_log.ensures.work c.outcome.ensures))

pub returns-in-Ok-clause-later : goal.returns-in-Ok-clause-later
returns-in-Ok-clause-later c =
    followed_later c.outcome.result c.requires.funds (log_followed (reading c.args.leaf.now.count (form c.in-Ok.f)) c.args.log.now.entries c.check_log.result 0 c.check_log.ensures.work c.outcome.ensures)

pub returns-in-Err-clause-work : goal.returns-in-Err-clause-work
returns-in-Err-clause-work c = λ n. in_its_log _ _ n (closed_err form (closing_of (sequent_of (sequent_at c.args.leaf.now))) c.args.leaf.now.count c.args.log.now.entries c.in-Err.fault n c.in-Err.ensures c.from.ensures)
