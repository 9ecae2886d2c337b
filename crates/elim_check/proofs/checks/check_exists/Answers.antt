use Rattle.std.proofs.Common.{refl, subst}
use Rattle.clause_set.specs.Kept.{AreFormed}
use Rattle.elim_laws.specs.Elimination.{IsOut}
use Rattle.elim_laws.specs.Logs.{name_by_log}
use Rattle.elim_laws.proofs.Accepted.{name_yields}
use Rattle.elim_check.proofs.Telling.{checked, accepted}
use Rattle.elim_check.proofs.checks.check_exists.Goals as goal

pub returns-clause-work : goal.returns-clause-work
returns-clause-work c =
    checked (name_by_log c.args.x c.args.d.now) c.args.log.now.entries c.as_slice-entries.result.now c.some_value_kept-answer.result c.some_value_kept-answer.new.place _ c.told.result
    c.some_value_kept-answer.ensures c.as_slice-entries.ensures refl c.told.ensures

pub returns-clause-out : goal.returns-clause-out
returns-clause-out c =
    accepted (name_by_log c.args.x c.args.d.now) (IsOut c.args.x c.args.d.now) c.args.log.now.entries _ _ c.told.result
    (name_yields c.args.x c.args.d.now (subst AreFormed c.clauses.ensures c.know_formed.ensures)) (returns-clause-work c)
