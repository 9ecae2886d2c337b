use Rattle.std.proofs.Common.{refl, subst, ◌-◌}
use Rattle.clause_set.specs.Kept.{AreFormed}
use Rattle.elim_laws.specs.Elimination.{IsEvery}
use Rattle.elim_laws.specs.Logs.{every_by_log}
use Rattle.elim_laws.proofs.Always.{every_yields}
use Rattle.elim_check.proofs.Telling.{checked, accepted}
use Rattle.elim_check.proofs.checks.check_forall.Goals as goal

pub returns-clause-work : goal.returns-clause-work
returns-clause-work c =
    checked (every_by_log (c.args.names - 1) c.args.d.now) c.args.log.now.entries c.as_slice-entries.result.now c.every_value-answer.result c.every_value-answer.new.place _ c.told.result
    c.every_value-answer.ensures c.as_slice-entries.ensures refl c.told.ensures

pub returns-clause-every : goal.returns-clause-every
returns-clause-every c =
    accepted (every_by_log (c.args.names - 1) c.args.d.now) (IsEvery (c.args.names - 1) c.args.d.now) c.args.log.now.entries _ _ c.told.result
    (every_yields (c.args.names - 1) c.args.d.now (subst AreFormed c.clauses.ensures c.know_formed.ensures)) (returns-clause-work c)
