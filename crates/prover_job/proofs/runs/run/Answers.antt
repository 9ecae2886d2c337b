-- What is answered of the job that was read is answered of each job that the words name.
use Rattle.job_words.specs.Jobs.{check, drill, eliminate, find_values, minimise, run_script, solve, task_of}
use Rattle.prover_job.proofs.Telling.{named_within, met_as, says_checked, says_valid, says_refuted, says_constraint, says_found, says_before, says_script, says_unfound, smt_caused, find_caused, says_least, says_nowhere, solve_caused, elim_caused, least_caused, check_caused, drill_caused}
use Rattle.prover_job.proofs.runs.run.Goals as goal

pub do_job-requires : goal.do_job-requires
do_job-requires g c = named_within _ _ c.in-Ok.ensures.named

pub returns-in-Ok-clause-valid : goal.returns-in-Ok-clause-valid
returns-in-Ok-clause-valid g c = λ file budget asked calculus shows names zero. says_valid _ calculus shows asked budget (g.S.Source.bytes_of c.args.source.now file) _ _ _
    (met_as (g.S.Source.bytes_of c.args.source.now) _ (task_of c.in-Ok.job) (solve file budget asked calculus shows) _ _ _ c.words_law.ensures c.in-Ok.ensures.named names c.do_job.ensures.answered) zero

pub returns-in-Ok-clause-refuted : goal.returns-in-Ok-clause-refuted
returns-in-Ok-clause-refuted g c = λ file budget asked calculus shows names zero. says_refuted calculus shows asked budget (g.S.Source.bytes_of c.args.source.now file) _ _ _
    (met_as (g.S.Source.bytes_of c.args.source.now) _ (task_of c.in-Ok.job) (solve file budget asked calculus shows) _ _ _ c.words_law.ensures c.in-Ok.ensures.named names c.do_job.ensures.answered) zero

pub returns-in-Ok-clause-checked : goal.returns-in-Ok-clause-checked
returns-in-Ok-clause-checked g c = λ file proof names zero. says_checked _ (g.S.Source.bytes_of c.args.source.now proof) (g.S.Source.bytes_of c.args.source.now file) _ _ _
    (met_as (g.S.Source.bytes_of c.args.source.now) _ (task_of c.in-Ok.job) (check file proof) _ _ _ c.words_law.ensures c.in-Ok.ensures.named names c.do_job.ensures.answered) zero

pub returns-in-Ok-clause-constraint : goal.returns-in-Ok-clause-constraint
returns-in-Ok-clause-constraint g c = λ file budget names zero. says_constraint _ budget (g.S.Source.bytes_of c.args.source.now file) _ _ _
    (met_as (g.S.Source.bytes_of c.args.source.now) _ (task_of c.in-Ok.job) (eliminate file budget) _ _ _ c.words_law.ensures c.in-Ok.ensures.named names c.do_job.ensures.answered) zero

pub returns-in-Ok-clause-found : goal.returns-in-Ok-clause-found
returns-in-Ok-clause-found g c = λ file budget proves names zero. says_found _ proves budget (g.S.Source.bytes_of c.args.source.now file) _ _ _
    (met_as (g.S.Source.bytes_of c.args.source.now) _ (task_of c.in-Ok.job) (find_values file budget proves) _ _ _ c.words_law.ensures c.in-Ok.ensures.named names c.do_job.ensures.answered) zero

pub returns-in-Ok-clause-unfound : goal.returns-in-Ok-clause-unfound
returns-in-Ok-clause-unfound g c = λ file budget proves names one. says_unfound proves budget (g.S.Source.bytes_of c.args.source.now file) _ _ _
    (met_as (g.S.Source.bytes_of c.args.source.now) _ (task_of c.in-Ok.job) (find_values file budget proves) _ _ _ c.words_law.ensures c.in-Ok.ensures.named names c.do_job.ensures.answered) one

pub returns-in-Ok-clause-find_causes : goal.returns-in-Ok-clause-find_causes
returns-in-Ok-clause-find_causes g c = λ file budget proves names. find_caused proves budget (g.S.Source.bytes_of c.args.source.now file) _ _ _
    (met_as (g.S.Source.bytes_of c.args.source.now) _ (task_of c.in-Ok.job) (find_values file budget proves) _ _ _ c.words_law.ensures c.in-Ok.ensures.named names c.do_job.ensures.answered)

pub returns-in-Ok-clause-scripted : goal.returns-in-Ok-clause-scripted
returns-in-Ok-clause-scripted g c = λ file budget names known. says_script _ budget (g.S.Source.bytes_of c.args.source.now file) _ _ _
    (met_as (g.S.Source.bytes_of c.args.source.now) _ (task_of c.in-Ok.job) (run_script file budget) _ _ _ c.words_law.ensures c.in-Ok.ensures.named names c.do_job.ensures.answered) known

pub returns-in-Ok-clause-scripted_before : goal.returns-in-Ok-clause-scripted_before
returns-in-Ok-clause-scripted_before g c = λ file budget names three. says_before _ budget (g.S.Source.bytes_of c.args.source.now file) _ _ _
    (met_as (g.S.Source.bytes_of c.args.source.now) _ (task_of c.in-Ok.job) (run_script file budget) _ _ _ c.words_law.ensures c.in-Ok.ensures.named names c.do_job.ensures.answered) three

pub returns-in-Ok-clause-minimised : goal.returns-in-Ok-clause-minimised
returns-in-Ok-clause-minimised g c = λ file term budget names zero. says_least _ term budget (g.S.Source.bytes_of c.args.source.now file) _ _ _
    (met_as (g.S.Source.bytes_of c.args.source.now) _ (task_of c.in-Ok.job) (minimise file term budget) _ _ _ c.words_law.ensures c.in-Ok.ensures.named names c.do_job.ensures.answered) zero

pub returns-in-Ok-clause-nowhere : goal.returns-in-Ok-clause-nowhere
returns-in-Ok-clause-nowhere g c = λ file term budget names one. says_nowhere _ term budget (g.S.Source.bytes_of c.args.source.now file) _ _ _
    (met_as (g.S.Source.bytes_of c.args.source.now) _ (task_of c.in-Ok.job) (minimise file term budget) _ _ _ c.words_law.ensures c.in-Ok.ensures.named names c.do_job.ensures.answered) one

pub returns-in-Ok-clause-solve_causes : goal.returns-in-Ok-clause-solve_causes
returns-in-Ok-clause-solve_causes g c = λ file budget asked calculus shows names. solve_caused calculus shows asked budget (g.S.Source.bytes_of c.args.source.now file) _ _ _
    (met_as (g.S.Source.bytes_of c.args.source.now) _ (task_of c.in-Ok.job) (solve file budget asked calculus shows) _ _ _ c.words_law.ensures c.in-Ok.ensures.named names c.do_job.ensures.answered)

pub returns-in-Ok-clause-elim_causes : goal.returns-in-Ok-clause-elim_causes
returns-in-Ok-clause-elim_causes g c = λ file budget names. elim_caused budget (g.S.Source.bytes_of c.args.source.now file) _ _ _
    (met_as (g.S.Source.bytes_of c.args.source.now) _ (task_of c.in-Ok.job) (eliminate file budget) _ _ _ c.words_law.ensures c.in-Ok.ensures.named names c.do_job.ensures.answered)

pub returns-in-Ok-clause-least_causes : goal.returns-in-Ok-clause-least_causes
returns-in-Ok-clause-least_causes g c = λ file term budget names. least_caused _ term budget (g.S.Source.bytes_of c.args.source.now file) _ _ _
    (met_as (g.S.Source.bytes_of c.args.source.now) _ (task_of c.in-Ok.job) (minimise file term budget) _ _ _ c.words_law.ensures c.in-Ok.ensures.named names c.do_job.ensures.answered)

pub returns-in-Ok-clause-check_causes : goal.returns-in-Ok-clause-check_causes
returns-in-Ok-clause-check_causes g c = λ file proof names. check_caused (g.S.Source.bytes_of c.args.source.now proof) (g.S.Source.bytes_of c.args.source.now file) _ _ _
    (met_as (g.S.Source.bytes_of c.args.source.now) _ (task_of c.in-Ok.job) (check file proof) _ _ _ c.words_law.ensures c.in-Ok.ensures.named names c.do_job.ensures.answered)

pub returns-in-Ok-clause-smt_causes : goal.returns-in-Ok-clause-smt_causes
returns-in-Ok-clause-smt_causes g c = λ file budget names. smt_caused budget (g.S.Source.bytes_of c.args.source.now file) _ _ _
    (met_as (g.S.Source.bytes_of c.args.source.now) _ (task_of c.in-Ok.job) (run_script file budget) _ _ _ c.words_law.ensures c.in-Ok.ensures.named names c.do_job.ensures.answered)

pub returns-in-Ok-clause-drilled : goal.returns-in-Ok-clause-drilled
returns-in-Ok-clause-drilled g c = λ count budget names. drill_caused _ budget count _ _ _
    (met_as (g.S.Source.bytes_of c.args.source.now) _ (task_of c.in-Ok.job) (drill count budget) _ _ _ c.words_law.ensures c.in-Ok.ensures.named names c.do_job.ensures.answered)
