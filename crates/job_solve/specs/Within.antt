-- The canonical run within a limit of its budget.
use Rattle.std.specs.Prelude.{ℕ, Option}
use Rattle.base_answers.specs.Answer.{answer_of}
use Rattle.base_answers.specs.declared.form.ProofForm.{ProofForm}
use Rattle.job_parts.specs.Parts.{IsCutBy}
use Rattle.pri_typing.specs.declared.problem.Problem.{Problem}
use Rattle.job_solve.specs.Proved.{AnswersRunAs}
use Rattle.job_solve.specs.Solved.{run_end}
use Rattle.job_solve.specs.declared.running.Course.{Course}
use Rattle.job_solve.specs.declared.running.Course.TheVariants.{Told, Cut}

-- what the run within the limit comes to: the answer of the run with the whole budget, or a cut
abbrev pub RunsTo : Option ProofForm → ℕ → ℕ → Problem → Course → Type 0
RunsTo asked limit budget p (Told output) = AnswersRunAs asked budget p (answer_of output)
RunsTo asked limit budget p (Cut y) = IsCutBy y (run_end limit p)
