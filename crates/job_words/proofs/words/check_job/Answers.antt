-- What the command finds names the job, and what it does not find no job has.
use Rattle.std.proofs.Common.{ap, length, refl}
use Rattle.clap.specs.Words.{found_of}
use Rattle.job_words.proofs.Answering.{first_there, handed_on, second_there}
use Rattle.job_words.proofs.Commanding.{check_is, check_named}
use Rattle.job_words.proofs.Finds.{finds, refused}
use Rattle.job_words.proofs.Naming.{only_check}
use Rattle.job_words.proofs.words.check_job.Goals as goal

pub returns-in_err-matches-clause-refused : goal.returns-in_err-matches-clause-refused
returns-in_err-matches-clause-refused c = handed_on c.from_residual-in_err-matches.result c.in_err-matches.field-0.0 _ c.from_residual-in_err-matches.ensures.1
    (λ is. only_check _ (λ file proof names. refused _ _ _ _ check_is _ c.in_ok-check_command.ensures c.args.line.now (c.in_err-matches.ensures.refused is) names.us names.spells (ap length names.files_are) tt))

pub returns-in_err-file-clause-refused : goal.returns-in_err-file-clause-refused
returns-in_err-file-clause-refused c = handed_on c.from_residual-in_err-file.result c.in_err-file.field-0.0 _ c.from_residual-in_err-file.ensures.1
    (λ is task names. first_there _ _ _ _ _ (finds _ _ _ _ check_is _ c.in_ok-check_command.ensures c.args.line.now (found_of c.in_ok-matches.matches) c.in_ok-matches.ensures.found) (c.in_err-file.ensures.missing is))

pub returns-in_err-proof-clause-refused : goal.returns-in_err-proof-clause-refused
returns-in_err-proof-clause-refused c = handed_on c.from_residual-in_err-proof.result c.in_err-proof.field-0.0 _ c.from_residual-in_err-proof.ensures.1
    (λ is task names. second_there _ _ _ _ _ (finds _ _ _ _ check_is _ c.in_ok-check_command.ensures c.args.line.now (found_of c.in_ok-matches.matches) c.in_ok-matches.ensures.found) (c.in_err-proof.ensures.missing is))

pub returns-clause-named : goal.returns-clause-named
returns-clause-named c = (refl, check_named _ _ _ _ (finds _ _ _ _ check_is _ c.in_ok-check_command.ensures c.args.line.now (found_of c.in_ok-matches.matches) c.in_ok-matches.ensures.found) c.in_ok-file.ensures.found c.in_ok-proof.ensures.found)
