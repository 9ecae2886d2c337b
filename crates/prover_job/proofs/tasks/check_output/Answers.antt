-- The problem's file that is held is answered with the proof's file, and one that is too long by that.
use Rattle.std.proofs.Common.{[], ◌∷◌, ap, Err, length, refl, arith}
use Rattle.base_answers.specs.Files.{most_of_file}
use Rattle.prover_job.specs.Runs.{AnswersWithProof}
use Rattle.prover_job.proofs.Opening.{begins_first, begins_second}
use Rattle.prover_job.proofs.Telling.{held_so, long_so, told_same}
use Rattle.prover_job.proofs.tasks.check_output.Goals as goal

pub returns-in-Ok-clause-answered : goal.returns-in-Ok-clause-answered
returns-in-Ok-clause-answered g c =
    held_so (AnswersWithProof (g.S.Source.bytes_of c.args.source.now c.args.proof.now)) _ _ _ c.in-Ok.ensures.whole (omega (arith, c.in-Ok.ensures.within, c.as_slice.ensures.len, ap length c.as_slice.ensures.value))
    (told_same _ _ (c.in-Ok.ensures.same c.args.proof.now) _ _ (rw c.as_slice.ensures.value at c.proof_output.ensures.answered))

pub returns-in-Err-clause-answered : goal.returns-in-Err-clause-answered
returns-in-Err-clause-answered g c = long_so most_of_file (AnswersWithProof (g.S.Source.bytes_of c.args.source.now c.args.proof.now)) _ _ _ (λ e. c.in-Err.ensures.long (ap Err e)) c.unread.ensures.long

pub returns-in-Ok-clause-broke : goal.returns-in-Ok-clause-broke
returns-in-Ok-clause-broke g c = λ is. (c.args.proof.now, (1, omega arith, refl), c.proof_output.ensures.broke is)

pub returns-in-Ok-clause-begun : goal.returns-in-Ok-clause-begun
returns-in-Ok-clause-begun g c = λ other. (c.args.proof.now, (1, omega arith, refl), c.proof_output.ensures.begun other)

pub returns-in-Ok-clause-front : goal.returns-in-Ok-clause-front
returns-in-Ok-clause-front g c = begins_second c.args.file.now c.args.proof.now _ _ _ (c.in-Ok.ensures.listed (λ e. cc)) c.proof_output.ensures.front

pub returns-in-Err-clause-front : goal.returns-in-Err-clause-front
returns-in-Err-clause-front g c = begins_first c.args.file.now (c.args.proof.now ∷ []) _ _ c.read_all.ensures.begins
