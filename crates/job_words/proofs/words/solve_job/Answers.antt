-- What the command finds names the job, and what it does not find no job has.
use Rattle.std.proofs.Common.{ap, length, refl}
use Rattle.clap.specs.Words.{found_of}
use Rattle.job_words.proofs.Answering.{handed_on, operand_there, no_budget}
use Rattle.job_words.proofs.Commanding.{not_both, solve_is, solve_named, solve_once}
use Rattle.job_words.proofs.Finds.{finds, refused}
use Rattle.job_words.proofs.Naming.{only_solve}
use Rattle.job_words.proofs.words.solve_job.Goals as goal

pub returns-in_err-matches-clause-refused : goal.returns-in_err-matches-clause-refused
returns-in_err-matches-clause-refused c = handed_on c.from_residual-in_err-matches.result c.in_err-matches.field-0.0 _ c.from_residual-in_err-matches.ensures.1
    (λ is. only_solve _ (λ file n a k v names. refused _ _ _ _ solve_is _ c.in_ok-solve_command.ensures c.args.line.now (c.in_err-matches.ensures.refused is) names.us names.spells (ap length names.file_is) (solve_once _ file n a k v names)))

pub returns-in_err-file-clause-refused : goal.returns-in_err-file-clause-refused
returns-in_err-file-clause-refused c = handed_on c.from_residual-in_err-file.result c.in_err-file.field-0.0 _ c.from_residual-in_err-file.ensures.1
    (λ is task names. operand_there _ _ _ _ (finds _ _ _ _ solve_is _ c.in_ok-solve_command.ensures c.args.line.now (found_of c.in_ok-matches.matches) c.in_ok-matches.ensures.found) (c.in_err-file.ensures.missing is))

pub returns-in_err-budget-clause-refused : goal.returns-in_err-budget-clause-refused
returns-in_err-budget-clause-refused c = handed_on c.from_residual-in_err-budget.result c.in_err-budget.field-0.0 _ c.from_residual-in_err-budget.ensures.1
    (λ is. only_solve _ (λ file n a k v names. no_budget _ _ _ _ solve_is refl _ _ (finds _ _ _ _ solve_is _ c.in_ok-solve_command.ensures c.args.line.now (found_of c.in_ok-matches.matches) c.in_ok-matches.ensures.found) c.in_err-budget.ensures names.us names.spells n names.budget_is))

pub returns-in_err-asked-clause-refused : goal.returns-in_err-asked-clause-refused
returns-in_err-asked-clause-refused c = handed_on c.from_residual-in_err-asked.result c.in_err-asked.field-0.0 _ c.from_residual-in_err-asked.ensures.1
    (λ is. only_solve _ (not_both _ _ _ _ (finds _ _ _ _ solve_is _ c.in_ok-solve_command.ensures c.args.line.now (found_of c.in_ok-matches.matches) c.in_ok-matches.ensures.found)
    (c.get_flag-whole.ensures.value, c.get_flag-whole.ensures.other) (c.get_flag-short.ensures.value, c.get_flag-short.ensures.other) c.in_err-asked.ensures))

pub returns-clause-named : goal.returns-clause-named
returns-clause-named c = (
  refl,
  solve_named _ _ _ _ _ _ _ _ _ (finds _ _ _ _ solve_is _ c.in_ok-solve_command.ensures c.args.line.now (found_of c.in_ok-matches.matches) c.in_ok-matches.ensures.found) c.in_ok-file.ensures.found c.in_ok-budget.ensures
      (c.get_flag-whole.ensures.value, c.get_flag-whole.ensures.other) (c.get_flag-short.ensures.value, c.get_flag-short.ensures.other) c.in_ok-asked.ensures (c.get_flag-calculus.ensures.value, c.get_flag-calculus.ensures.other)
      (c.get_flag-shows.ensures.value, c.get_flag-shows.ensures.other),
)
