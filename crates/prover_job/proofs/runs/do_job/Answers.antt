-- An answer that is put ends with its status, which is that of no fault of the source or of memory, or with 7.
use Rattle.std.proofs.Common.{inl}
use Rattle.base_answers.specs.Answer.{answer_of}
use Rattle.job_words.specs.Jobs.{task_of}
use Rattle.prover_job.proofs.Telling.{task_status, text_status, no_fault, no_words}
use Rattle.prover_job.proofs.runs.do_job.Goals as goal

pub put_answer-requires : goal.put_answer-requires
put_answer-requires g c = text_status ((answer_of c.in-Ok.output).status) (task_status (g.S.Source.bytes_of c.args.source.now) (task_of c.args.job.now) (answer_of c.in-Ok.output) c.in-Ok.ensures.answered)

pub returns-in-Ok-clause-words : goal.returns-in-Ok-clause-words
returns-in-Ok-clause-words g c = no_words _ _ (task_status (g.S.Source.bytes_of c.args.source.now) (task_of c.args.job.now) (answer_of c.in-Ok.output) c.in-Ok.ensures.answered) c.put_answer.ensures.ends

pub returns-in-Ok-clause-source_failed : goal.returns-in-Ok-clause-source_failed
returns-in-Ok-clause-source_failed g c = λ six. absurd (no_fault _ _ (task_status (g.S.Source.bytes_of c.args.source.now) (task_of c.args.job.now) (answer_of c.in-Ok.output) c.in-Ok.ensures.answered) c.put_answer.ensures.ends (inl six))

pub returns-in-Ok-clause-named : goal.returns-in-Ok-clause-named
returns-in-Ok-clause-named g c = λ six. absurd (no_fault _ _ (task_status (g.S.Source.bytes_of c.args.source.now) (task_of c.args.job.now) (answer_of c.in-Ok.output) c.in-Ok.ensures.answered) c.put_answer.ensures.ends (inl six))

pub returns-in-Ok-clause-silent : goal.returns-in-Ok-clause-silent
returns-in-Ok-clause-silent g c = λ fault. absurd (no_fault _ _ (task_status (g.S.Source.bytes_of c.args.source.now) (task_of c.args.job.now) (answer_of c.in-Ok.output) c.in-Ok.ensures.answered) c.put_answer.ensures.ends fault)
