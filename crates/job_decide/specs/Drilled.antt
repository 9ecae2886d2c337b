-- What `drill` answers: how `solve` answers to the problem that the program makes.
use Rattle.std.specs.Prelude.{◌≡◌, ℕ, false, List, [], ◌∷◌, ◌++◌, ◌==◌, if◌then◌else◌, codes, None}
use Rattle.std.specs.Fmt.{decimal}
use Rattle.problem_gen.specs.Drills.{drill_text}
use Rattle.base_answers.specs.Answer.{Answer}
use Rattle.job_decide.specs.Decided.{IsDecidedAs}

-- a text up to the end of its first line
abbrev pub first_line : List ℕ → List ℕ
first_line [] = []
first_line (c ∷ cs) = if c == 10 then c ∷ [] else c ∷ first_line cs

-- the size of the problem, and after it the first line of an answer, with its status
abbrev pub drill_answer : ℕ → Answer → Answer
drill_answer count answer = record { status = answer.status; text = codes "drill " ++ (decimal count ++ (codes ": " ++ first_line answer.text)) }

-- the answer of `drill` to a size, with this budget
pub record IsDrilled (budget count : ℕ) (answer : Answer) : Type 0 where
  pub solved : Answer
  pub solves : IsDecidedAs false false None budget (drill_text count) solved
  pub drilled : answer ≡ drill_answer count solved
