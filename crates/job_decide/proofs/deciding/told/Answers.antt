use Rattle.std.proofs.Common.{◌∙◌, ℕ, ap, sym}
use Rattle.base_answers.specs.Answer.{Answer}
use Rattle.job_decide.specs.Decided.{unexplained}
use Rattle.job_decide.proofs.deciding.told.Goals as goal

abbrev status_of : Answer → ℕ
status_of a = a.status

pub by_clauses-requires-clause-left_open : goal.by_clauses-requires-clause-left_open
by_clauses-requires-clause-left_open g c =
    record { alone = c.requires.alone; leaves = unexplained c.requires.run.plain c.requires.run.answers (sym (ap status_of c.requires.run.whole) ∙ c.if-output-eq-UNKNOWN.true) }
