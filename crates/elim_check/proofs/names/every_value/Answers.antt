use Rattle.clause_set.specs.Dnfs.{negation}
use Rattle.elim_laws.specs.Logs.{name_by_log, reads_none, read_next}
use Rattle.elim_check.proofs.Chained.{read_ok, read_err, quiet_ok, quiet_err, quiet_stopped}
use Rattle.elim_check.proofs.names.every_value.Goals as goal

pub returns-in_err-fails : goal.returns-in_err-fails
returns-in_err-fails c = quiet_stopped (negation c.args.d.now) _ c.from_residual.result c.requires c.in_err-fails.ensures.charged c.from_residual.ensures.1

pub returns-in_err-some : goal.returns-in_err-some
returns-in_err-some c =
    read_ok (reads_none (negation c.args.d.now)) (λ n. read_next (name_by_log c.args.x n) (λ r. reads_none (negation r))) (quiet_ok (negation c.args.d.now) c.requires c.in_ok-fails.ensures.charged)
    (read_err (name_by_log c.args.x c.in_ok-fails.fails) (λ r. reads_none (negation r)) c.from_residual-in_err-some.result c.in_err-some.ensures c.from_residual-in_err-some.ensures.1)

pub returns-in_err-not : goal.returns-in_err-not
returns-in_err-not c =
    read_ok (reads_none (negation c.args.d.now)) (λ n. read_next (name_by_log c.args.x n) (λ r. reads_none (negation r))) (quiet_ok (negation c.args.d.now) c.requires c.in_ok-fails.ensures.charged)
    (read_ok (name_by_log c.args.x c.in_ok-fails.fails) (λ r. reads_none (negation r)) c.in_ok-some.ensures
    (quiet_err (negation c.in_ok-some.some) c.from_residual-in_err-not.result c.in_ok-some.ensures.within c.in_err-not.ensures.charged c.from_residual-in_err-not.ensures.1))

pub returns : goal.returns
returns c =
    read_ok (reads_none (negation c.args.d.now)) (λ n. read_next (name_by_log c.args.x n) (λ r. reads_none (negation r))) (quiet_ok (negation c.args.d.now) c.requires c.in_ok-fails.ensures.charged)
    (read_ok (name_by_log c.args.x c.in_ok-fails.fails) (λ r. reads_none (negation r)) c.in_ok-some.ensures (quiet_ok (negation c.in_ok-some.some) c.in_ok-some.ensures.within c.in_ok-not.ensures.charged))
