-- The values that `solve` shows after an INVALID, where they are asked for.
use Rattle.std.specs.Prelude.{◌≡◌, ℕ, ℤ, Bool, true, List, [], Option, None}
use Rattle.base_answers.specs.Answer.{Answer}
use Rattle.base_answers.specs.declared.form.ProofForm.{ProofForm}
use Rattle.job_solve.specs.Proved.{IsProofPart, extended}
use Rattle.job_solve.specs.Solved.{AnswersRun, run_end}
use Rattle.job_values.specs.Values.{AreFalseValues, no_model}
use Rattle.model_printer.specs.Models.{model_text}
use Rattle.pri_typing.specs.declared.problem.Problem.{Problem}

-- values are shown at this answer: they are asked for, it says that the problem is invalid, and this has neither existential constants nor
-- predicates and functions
pub record AreToShow (shows : Bool) (p : Problem) (answer : Answer) : Type 0 where
  pub asked : shows ≡ true
  pub invalid : answer.status ≡ 1
  pub alone : p.existentials ≡ []
  pub pure : p.first_application ≡ None

-- the lines with the values of the universal constants that the run of the negated problem finds; there is none where it finds none
pub data AreShownLines (shows : Bool) (budget : ℕ) (p : Problem) (answer : Answer) (lines : List ℕ) : Type 0 where
  values : (vs : List ℤ) → AreToShow shows p answer → AreFalseValues budget p vs → lines ≡ model_text p vs no_model → AreShownLines shows budget p answer lines
  nothing : ((vs : List ℤ) → AreToShow shows p answer → ¬ (AreFalseValues budget p vs)) → lines ≡ [] → AreShownLines shows budget p answer lines

-- the answer of the canonical run, with such lines after it, and then its proof, if one is asked for
pub record AnswersShown (shows : Bool) (asked : Option ProofForm) (budget : ℕ) (p : Problem) (answer : Answer) : Type 0 where
  pub plain : Answer
  pub answers : AnswersRun budget p plain
  pub lines : List ℕ
  pub shown : AreShownLines shows budget p plain lines
  pub part : List ℕ
  pub is_part : IsProofPart asked p (run_end budget p) part
  pub whole : answer ≡ extended (extended plain lines) part
