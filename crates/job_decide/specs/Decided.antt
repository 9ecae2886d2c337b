-- What `solve` answers: the end of the canonical run; or, where that leaves the problem open, that it is valid, by a clause proof, or that
-- it is refuted, by a finite model.
use Rattle.std.specs.Prelude.{◌≡◌, ℕ, ℤ, Bool, false, cond, ◌||◌, List, [], ◌++◌, codes, Option, Some, None, is_some}
use Rattle.base_answers.specs.Answer.{Answer, answer_of, line, says_line}
use Rattle.base_answers.specs.declared.form.ProofForm.{ProofForm}
use Rattle.base_answers.specs.declared.output.Output.{Output}
use Rattle.base_budget.specs.Trace.{Funds}
use Rattle.itp_lines.specs.Blocks.{IsBlocksText}
use Rattle.job_clauses.specs.Judged.{IsClauseFile}
use Rattle.job_seeking.specs.Sought.{IsProvedNowhere}
use Rattle.job_parts.specs.Parts.{IsCut, first_part}
use Rattle.job_decide.specs.Shown.{AnswersShown}
use Rattle.job_solve.specs.Proved.{extended}
use Rattle.job_solve.specs.Solved.{AnswersRun, closed_answer, run_end}
use Rattle.model_printer.specs.Models.{model_text}
use Rattle.model_refuting.specs.Refuting.{IsModelCounterexample}
use Rattle.model_table.specs.declared.model.Model.{Model}
use Rattle.pri_problem.specs.Answers.{AnswersFile}
use Rattle.pri_problem.specs.Encoded.{AnswersEncoded}
use Rattle.pri_typing.specs.declared.problem.Problem.{Problem}

-- what is printed of the proof: the line `proof:` and after it the file, whichever form is asked for; nothing where none is
abbrev pub clause_part : Option ProofForm → List ℕ → List ℕ
clause_part None file = []
clause_part (Some form) file = line (codes "proof:") ++ file

-- a purse with the whole budget
abbrev pub whole_purse : ℕ → Funds
whole_purse budget = record { budget = budget; spent = 0 }

-- the canonical run leaves a problem open: it is cut within the first part of the budget, or its answer with the whole budget is that
-- nothing is known
pub data LeavesOpen (budget : ℕ) (p : Problem) : Type 0 where
  cut : IsCut (run_end (first_part budget) p) → LeavesOpen budget p
  unexplained : (answer : Answer) → AnswersRun budget p answer → answer.status ≡ 2 → LeavesOpen budget p

-- the problem has no existential constants, and its canonical run leaves it open
pub record IsLeftOpen (budget : ℕ) (p : Problem) : Type 0 where
  pub alone : p.existentials ≡ []
  pub leaves : LeavesOpen budget p

-- the answer that the problem is valid, by a clause proof, with the lines of its `\interpolant` blocks
pub record AnswersProved (asked : Option ProofForm) (budget : ℕ) (p : Problem) (answer : Answer) : Type 0 where
  pub left_open : IsLeftOpen budget p
  pub file : List ℕ
  pub proof : IsClauseFile p file
  pub blocks : List ℕ
  pub lines : IsBlocksText p (whole_purse budget) blocks
  pub whole : answer ≡ extended (closed_answer blocks) (clause_part asked file)

-- the answer that the problem is refuted, by a model and values of its universal constants: these are told where it has predicates or
-- functions, and where they are asked for
abbrev pub model_answer : Bool → Problem → List ℤ → Model → Answer
model_answer shows p us m = record { status = 1; text = line (codes "INVALID") ++ cond (shows || is_some p.first_application) (model_text p us m) [] }

-- the answer that the problem is refuted, by a finite model
pub record AnswersRefuted (shows : Bool) (budget : ℕ) (p : Problem) (answer : Answer) : Type 0 where
  pub left_open : IsLeftOpen budget p
  pub model : Model
  pub universals : List ℤ
  pub is : IsModelCounterexample p [] model universals
  pub whole : answer ≡ model_answer shows p universals model

-- the answer that the problem, which has neither predicates nor functions, holds at no values of its existential constants: its canonical
-- run is cut within the first part of the budget, and there is a clause proof of that
pub record AnswersNowhere (budget : ℕ) (p : Problem) (answer : Answer) : Type 0 where
  pub cut : IsCut (run_end (first_part budget) p)
  pub nowhere : IsProvedNowhere p
  pub whole : answer ≡ says_line 1 (codes "INVALID")

-- the answer to a problem whose encoding fits, by the calculus alone or not, with values that are shown or not
pub data AnswersDecided (calculus shows : Bool) (asked : Option ProofForm) (budget : ℕ) (p : Problem) (answer : Answer) : Type 0 where
  canonical : AnswersShown shows asked budget p answer → AnswersDecided calculus shows asked budget p answer
  proved : calculus ≡ false → AnswersProved asked budget p answer → AnswersDecided calculus shows asked budget p answer
  refuted : calculus ≡ false → AnswersRefuted shows budget p answer → AnswersDecided calculus shows asked budget p answer
  nowhere : calculus ≡ false → asked ≡ None → AnswersNowhere budget p answer → AnswersDecided calculus shows asked budget p answer

-- the answer by what the clause search found, where it found something
abbrev pub AnswersBySearch : Bool → Option ProofForm → ℕ → Problem → Option Output → Type 0
AnswersBySearch shows asked budget p None = Unit {0}
AnswersBySearch shows asked budget p (Some output) = AnswersDecided false shows asked budget p (answer_of output)

-- the answer of `solve` with this budget to the bytes of a file, with its proof or without
abbrev pub IsDecidedAs : Bool → Bool → Option ProofForm → ℕ → List ℕ → Answer → Type 0
IsDecidedAs calculus shows asked budget = AnswersFile (AnswersEncoded (AnswersDecided calculus shows asked budget))
