-- A file that is held is answered by the job, and one that is too long by that.
use Rattle.std.proofs.Common.{ap, Err, length, arith}
use Rattle.base_answers.specs.Files.{most_of_file}
use Rattle.base_answers.proofs.Meeting.{whole_answered}
use Rattle.prover_job.proofs.Telling.{long_so}
use Rattle.job_find.specs.Found.{IsFoundIn}
use Rattle.prover_job.proofs.tasks.find_output.Goals as goal

pub returns-in_ok-answer-in-Ok-clause-answered : goal.returns-in_ok-answer-in-Ok-clause-answered
returns-in_ok-answer-in-Ok-clause-answered g c = whole_answered most_of_file (IsFoundIn c.args.proves c.args.budget) _ _ _ c.in-Ok.ensures.whole
    (omega (arith, c.in-Ok.ensures.within, c.as_slice.ensures.len, ap length c.as_slice.ensures.value)) (rw c.as_slice.ensures.value at c.in_ok-answer-in-Ok.ensures)

pub returns-in-Err-clause-answered : goal.returns-in-Err-clause-answered
returns-in-Err-clause-answered g c = long_so most_of_file (IsFoundIn c.args.proves c.args.budget) _ _ _ (λ e. c.in-Err.ensures.long (ap Err e)) c.unread.ensures.long
