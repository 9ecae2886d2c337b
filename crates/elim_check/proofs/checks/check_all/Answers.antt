use Rattle.std.proofs.Common.{◌≡◌, ◌↔◌, true, [], refl, subst}
use Rattle.clause_set.specs.Kept.{AreFormed}
use Rattle.clause_set.specs.Literals.{dnf_truth}
use Rattle.elim_laws.specs.Logs.{names_by_log}
use Rattle.elim_laws.specs.Whole.{HasSolution}
use Rattle.elim_laws.proofs.Satisfied.{names_yield}
use Rattle.elim_check.proofs.Telling.{checked, accepted}
use Rattle.elim_check.proofs.checks.check_all.Goals as goal

pub returns-clause-work : goal.returns-clause-work
returns-clause-work c =
    checked (names_by_log c.args.names c.args.d.now) c.args.log.now.entries c.as_slice-entries.result.now c.some_values-answer.result c.some_values-answer.new.place _ c.told.result
    c.some_values-answer.ensures c.as_slice-entries.ensures refl c.told.ensures

pub returns-clause-satisfied : goal.returns-clause-satisfied
returns-clause-satisfied c =
    accepted (names_by_log c.args.names c.args.d.now) (λ r. HasSolution c.args.d.now c.args.names ↔ (dnf_truth r [] ≡ true)) c.args.log.now.entries _ _ c.told.result
    (names_yield c.args.names c.args.d.now (subst AreFormed c.clauses.ensures c.know_formed.ensures)) (returns-clause-work c)
