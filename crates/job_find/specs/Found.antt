-- What `find` answers: values of the existential constants at which the problem holds, that there are none, or what `solve` answers by
-- the canonical run.
use Rattle.std.specs.Prelude.{◌≡◌, ℕ, ℤ, Bool, true, false, List, [], ◌∷◌, ◌++◌, codes, Option, Some, None}
use Rattle.base_answers.specs.Answer.{Answer, line, says_line}
use Rattle.base_answers.specs.declared.form.ProofForm.{ProofForm}
use Rattle.base_answers.specs.declared.form.ProofForm.TheVariants.{Whole}
use Rattle.job_seeking.specs.Sought.{IsClauseFileAt, IsProvedNowhere}
use Rattle.job_solve.specs.Proved.{AnswersRunAs, extended}
use Rattle.pri_lines.specs.Lines.{solution_line}
use Rattle.pri_problem.specs.Answers.{AnswersFile}
use Rattle.pri_problem.specs.Encoded.{AnswersEncoded}
use Rattle.pri_typing.specs.declared.problem.Problem.{Problem}

-- the line with the values of this many names; without a name that the problem is valid
abbrev pub found_line : List (List ℕ) → Problem → List ℤ → List ℕ
found_line [] p vs = line (codes "VALID")
found_line (x ∷ names) p vs = solution_line p vs

-- the answer with values of the existential constants
abbrev pub found_answer : Problem → List ℤ → Answer
found_answer p vs = record { status = 0; text = found_line p.existentials p vs }

-- what is printed of the proof: the line `proof:` and after it the file; nothing where none is asked for
abbrev pub found_part : Bool → List ℕ → List ℕ
found_part false file = []
found_part true file = line (codes "proof:") ++ file

-- the form in which the canonical run prints its proof, where one is asked for
abbrev pub tree_form : Bool → Option ProofForm
tree_form false = None
tree_form true = Some Whole

-- the answer to a problem whose encoding fits, with a proof or without: values of which there is a clause proof; that the problem holds
-- nowhere, of which there is one; or what `solve` answers by the canonical run with the whole budget
pub data AnswersFound (proves : Bool) (budget : ℕ) (p : Problem) (answer : Answer) : Type 0 where
  values : (vs : List ℤ) (file : List ℕ) → IsClauseFileAt p vs file → answer ≡ extended (found_answer p vs) (found_part proves file) → AnswersFound proves budget p answer
  nowhere : IsProvedNowhere p → answer ≡ says_line 1 (codes "INVALID") → AnswersFound proves budget p answer
  run : AnswersRunAs (tree_form proves) budget p answer → AnswersFound proves budget p answer

-- the answer of `find` with this budget to the bytes of a file, with its proof or without
abbrev pub IsFoundIn : Bool → ℕ → List ℕ → Answer → Type 0
IsFoundIn proves budget = AnswersFile (AnswersEncoded (AnswersFound proves budget))
