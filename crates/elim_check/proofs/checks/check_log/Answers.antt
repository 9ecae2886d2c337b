use Rattle.std.proofs.Common.{refl}
use Rattle.elim_laws.specs.Whole.{AreOver, IsExact}
use Rattle.elim_laws.proofs.Reduced.{presburger_of}
use Rattle.formula.specs.Tree.{form}
use Rattle.elim_check.specs.Reading.{reading}
use Rattle.elim_check.proofs.Telling.{checked, accepted}
use Rattle.elim_check.proofs.Unfolded.{reading_over, reading_yields}
use Rattle.elim_check.proofs.checks.check_log.Goals as goal

pub returns-clause-work : goal.returns-clause-work
returns-clause-work c =
    checked (reading c.args.names (form c.args.f.now)) c.args.log.now.entries c.as_slice-entries.result.now c.form_by_log-answer.result c.form_by_log-answer.new.place _ c.told.result
    c.form_by_log-answer.ensures c.as_slice-entries.ensures refl c.told.ensures

pub returns-clause-exact : goal.returns-clause-exact
returns-clause-exact c = λ pure.
    accepted (reading c.args.names (form c.args.f.now)) (λ d. IsExact d (form c.args.f.now) c.args.names) c.args.log.now.entries _ _ c.told.result
    (reading_yields c.args.names (form c.args.f.now) (presburger_of (form c.args.f.now) pure c.know_reduced.ensures)) (returns-clause-work c)

pub returns-clause-over : goal.returns-clause-over
returns-clause-over c = λ pure over.
    accepted (reading c.args.names (form c.args.f.now)) (AreOver c.args.names) c.args.log.now.entries _ _ c.told.result
    (reading_over c.args.names (form c.args.f.now) (presburger_of (form c.args.f.now) pure c.know_reduced.ensures) over) (returns-clause-work c)
