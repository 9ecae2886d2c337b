-- What the command finds names the job, and what it does not find no job has.
use Rattle.std.proofs.Common.{ap, length, refl}
use Rattle.clap.specs.Words.{found_of}
use Rattle.job_words.proofs.Answering.{handed_on, no_budget}
use Rattle.job_words.proofs.Commanding.{drill_is, drill_named, drill_once, no_count}
use Rattle.job_words.proofs.Finds.{finds, refused}
use Rattle.job_words.proofs.Naming.{only_drill}
use Rattle.job_words.proofs.words.drill_job.Goals as goal

pub returns-in_err-matches-clause-refused : goal.returns-in_err-matches-clause-refused
returns-in_err-matches-clause-refused c = handed_on c.from_residual-in_err-matches.result c.in_err-matches.field-0.0 _ c.from_residual-in_err-matches.ensures.1
    (λ is. only_drill _ (λ n m names. refused _ _ _ _ drill_is _ c.in_ok-drill_command.ensures c.args.line.now (c.in_err-matches.ensures.refused is) names.us names.spells (ap length names.text_is) (drill_once _ n m names)))

pub returns-in_err-count-clause-refused : goal.returns-in_err-count-clause-refused
returns-in_err-count-clause-refused c = handed_on c.from_residual-in_err-count.result c.in_err-count.field-0.0 _ c.from_residual-in_err-count.ensures.1
    (λ is. only_drill _ (λ n m names. no_count _ _ (finds _ _ _ _ drill_is _ c.in_ok-drill_command.ensures c.args.line.now (found_of c.in_ok-matches.matches) c.in_ok-matches.ensures.found) c.in_err-count.ensures.missing n m names))

pub returns-in_err-budget-clause-refused : goal.returns-in_err-budget-clause-refused
returns-in_err-budget-clause-refused c = handed_on c.from_residual-in_err-budget.result c.in_err-budget.field-0.0 _ c.from_residual-in_err-budget.ensures.1
    (λ is. only_drill _ (λ n m names. no_budget _ _ _ _ drill_is refl _ _ (finds _ _ _ _ drill_is _ c.in_ok-drill_command.ensures c.args.line.now (found_of c.in_ok-matches.matches) c.in_ok-matches.ensures.found) c.in_err-budget.ensures names.us names.spells m names.budget_is))

pub returns-clause-named : goal.returns-clause-named
returns-clause-named c = (refl, drill_named _ _ _ _ (finds _ _ _ _ drill_is _ c.in_ok-drill_command.ensures c.args.line.now (found_of c.in_ok-matches.matches) c.in_ok-matches.ensures.found) c.in_ok-count.ensures.found c.in_ok-budget.ensures)
