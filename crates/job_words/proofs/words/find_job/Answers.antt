-- What the command finds names the job, and what it does not find no job has.
use Rattle.std.proofs.Common.{ap, length, refl}
use Rattle.clap.specs.Words.{found_of}
use Rattle.job_words.proofs.Answering.{handed_on, operand_there, no_budget}
use Rattle.job_words.proofs.Commanding.{find_is, find_named, find_once}
use Rattle.job_words.proofs.Finds.{finds, refused}
use Rattle.job_words.proofs.Naming.{only_find}
use Rattle.job_words.proofs.words.find_job.Goals as goal

pub returns-in_err-matches-clause-refused : goal.returns-in_err-matches-clause-refused
returns-in_err-matches-clause-refused c = handed_on c.from_residual-in_err-matches.result c.in_err-matches.field-0.0 _ c.from_residual-in_err-matches.ensures.1
    (λ is. only_find _ (λ file n p names. refused _ _ _ _ find_is _ c.in_ok-find_command.ensures c.args.line.now (c.in_err-matches.ensures.refused is) names.us names.spells (ap length names.file_is) (find_once _ file n p names)))

pub returns-in_err-file-clause-refused : goal.returns-in_err-file-clause-refused
returns-in_err-file-clause-refused c = handed_on c.from_residual-in_err-file.result c.in_err-file.field-0.0 _ c.from_residual-in_err-file.ensures.1
    (λ is task names. operand_there _ _ _ _ (finds _ _ _ _ find_is _ c.in_ok-find_command.ensures c.args.line.now (found_of c.in_ok-matches.matches) c.in_ok-matches.ensures.found) (c.in_err-file.ensures.missing is))

pub returns-in_err-budget-clause-refused : goal.returns-in_err-budget-clause-refused
returns-in_err-budget-clause-refused c = handed_on c.from_residual-in_err-budget.result c.in_err-budget.field-0.0 _ c.from_residual-in_err-budget.ensures.1
    (λ is. only_find _ (λ file n p names. no_budget _ _ _ _ find_is refl _ _ (finds _ _ _ _ find_is _ c.in_ok-find_command.ensures c.args.line.now (found_of c.in_ok-matches.matches) c.in_ok-matches.ensures.found) c.in_err-budget.ensures names.us names.spells n names.budget_is))

pub returns-clause-named : goal.returns-clause-named
returns-clause-named c = (refl, find_named _ _ _ _ _ (finds _ _ _ _ find_is _ c.in_ok-find_command.ensures c.args.line.now (found_of c.in_ok-matches.matches) c.in_ok-matches.ensures.found) c.in_ok-file.ensures.found c.in_ok-budget.ensures (c.get_flag-proves.ensures.value, c.get_flag-proves.ensures.other))
