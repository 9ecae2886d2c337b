-- Where each answer of `solve` comes.
use Rattle.std.specs.Prelude.{◌≡◌, ◌≢◌, ℕ, ℤ, Bool, false, List, [], Option, None}
use Rattle.base_answers.specs.Answer.{Answer}
use Rattle.base_answers.specs.declared.form.ProofForm.{ProofForm}
use Rattle.job_clauses.specs.Judged.{IsClauseFile}
use Rattle.job_decide.specs.Decided.{IsLeftOpen}
use Rattle.job_decide.specs.Shown.{AreShownLines}
use Rattle.job_solve.specs.Causes.{SolveCauses, SolveDecides}
use Rattle.job_parts.specs.Parts.{IsCut, first_part}
use Rattle.job_seeking.specs.Sought.{IsProvedNowhere}
use Rattle.job_solve.specs.Ground.{IsEnough}
use Rattle.job_solve.specs.Proved.{extended}
use Rattle.job_solve.specs.Solved.{run_end}
use Rattle.model_refuting.specs.Refuting.{IsModelCounterexample}
use Rattle.model_table.specs.declared.model.Model.{Model}
use Rattle.pri_problem.specs.Answers.{PosesOne}
use Rattle.pri_problem.specs.Encoded.{Fits}

-- an answer of the canonical run, which comes exactly where its row says, and decides what it has to, with seven steps a node where a
-- problem is one of numbers
pub record IsSolveCaused (budget : ℕ) (bytes : List ℕ) (answer : Answer) : Type 0 where
  pub causes : SolveCauses budget bytes answer
  pub decides : SolveDecides budget bytes answer
  pub enough : IsEnough budget bytes

-- the lines after an answer to these bytes: those of the problem that they pose, and none where the answer is not that it is invalid
pub data IsShownSo (shows : Bool) (budget : ℕ) (bytes : List ℕ) (answer : Answer) (lines : List ℕ) : Type 0 where
  by_problem : PosesOne bytes (λ p. Fits p × AreShownLines shows budget p answer lines) → IsShownSo shows budget bytes answer lines
  elsewhere : answer.status ≢ 1 → lines ≡ [] → IsShownSo shows budget bytes answer lines

-- such an answer with the values after it that are shown, and then the proof, where these are asked for
pub record IsSolveCausedAs (shows : Bool) (asked : Option ProofForm) (budget : ℕ) (bytes : List ℕ) (answer : Answer) : Type 0 where
  pub plain : Answer
  pub lines : List ℕ
  pub part : List ℕ
  pub whole : answer ≡ extended (extended plain lines) part
  pub shown : IsShownSo shows budget bytes plain lines
  pub none : asked ≡ None → part ≡ []
  pub caused : IsSolveCaused budget bytes plain

-- the bytes pose a problem whose encoding fits, which the canonical run leaves open, and of which there is a clause proof
abbrev pub IsProvedByClauses : ℕ → List ℕ → Type 0
IsProvedByClauses budget bytes = PosesOne bytes (λ p. Fits p × IsLeftOpen budget p × ((file : List ℕ) × IsClauseFile p file))

-- the bytes pose a problem whose encoding fits, which the canonical run leaves open, and of which there is a counterexample by a model
abbrev pub IsRefutedByModel : ℕ → List ℕ → Type 0
IsRefutedByModel budget bytes = PosesOne bytes (λ p. Fits p × IsLeftOpen budget p × ((m : Model) × (us : List ℤ) × IsModelCounterexample p [] m us))

-- the bytes pose a problem whose encoding fits, whose canonical run is cut within the first part of the budget, and of which there is a
-- clause proof that it holds at no values of its existential constants
abbrev pub IsNowhereByClauses : ℕ → List ℕ → Type 0
IsNowhereByClauses budget bytes = PosesOne bytes (λ p. Fits p × IsCut (run_end (first_part budget) p) × IsProvedNowhere p)

-- the answer is that of the canonical run; or, not by the calculus alone, it is valid or invalid where that run leaves the problem open
pub data IsCausedAs (calculus shows : Bool) (asked : Option ProofForm) (budget : ℕ) (bytes : List ℕ) (answer : Answer) : Type 0 where
  canonical : IsSolveCausedAs shows asked budget bytes answer → IsCausedAs calculus shows asked budget bytes answer
  proved : calculus ≡ false → answer.status ≡ 0 → IsProvedByClauses budget bytes → IsCausedAs calculus shows asked budget bytes answer
  refuted : calculus ≡ false → answer.status ≡ 1 → IsRefutedByModel budget bytes → IsCausedAs calculus shows asked budget bytes answer
  nowhere : calculus ≡ false → asked ≡ None → answer.status ≡ 1 → IsNowhereByClauses budget bytes → IsCausedAs calculus shows asked budget bytes answer
