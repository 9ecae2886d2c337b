use Rattle.clause_set.specs.Dnfs.{tidying}
use Rattle.elim_check.proofs.Chained.{quiet_ok, quiet_err}
use Rattle.elim_check.proofs.Naming.{replay_stopped, replay_done}
use Rattle.elim_check.proofs.names.some_value.Goals as goal

pub returns-in_err-out : goal.returns-in_err-out
returns-in_err-out c =
    replay_stopped c.args.x c.args.d c.into_clauses.result c.from_residual.result c.into_clauses.ensures c.in_err-out.ensures c.from_residual.ensures.1

pub returns-in_err-tidy : goal.returns-in_err-tidy
returns-in_err-tidy c =
    replay_done c.args.x c.args.d c.into_clauses.result c.into_clauses.ensures c.in_ok-out.ensures
    (quiet_err (tidying c.in_ok-out.out) c.from_residual-in_err-tidy.result c.in_ok-out.ensures.within c.in_err-tidy.ensures.charged c.from_residual-in_err-tidy.ensures.1)

pub returns : goal.returns
returns c =
    replay_done c.args.x c.args.d c.into_clauses.result c.into_clauses.ensures c.in_ok-out.ensures
    (quiet_ok (tidying c.in_ok-out.out) c.in_ok-out.ensures.within c.in_ok-tidy.ensures.charged)
