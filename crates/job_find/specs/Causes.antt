-- Where each answer of `find` comes.
use Rattle.std.specs.Prelude.{◌≡◌, ℕ, ℤ, Bool, false, List}
use Rattle.base_answers.specs.Answer.{Answer}
use Rattle.job_decide.specs.Causes.{IsSolveCausedAs}
use Rattle.job_find.specs.Found.{tree_form}
use Rattle.job_seeking.specs.Sought.{IsClauseFileAt, IsProvedNowhere}
use Rattle.pri_problem.specs.Answers.{PosesOne}
use Rattle.pri_problem.specs.Encoded.{Fits}

-- the answer is that of the canonical run with the whole budget, and comes exactly where its row says; or there is a clause proof of the
-- problem at some values; or there is one that it holds at none
pub data IsFindCaused (proves : Bool) (budget : ℕ) (bytes : List ℕ) (answer : Answer) : Type 0 where
  run : IsSolveCausedAs false (tree_form proves) budget bytes answer → IsFindCaused proves budget bytes answer
  values : answer.status ≡ 0 → PosesOne bytes (λ p. Fits p × ((vs : List ℤ) × (file : List ℕ) × IsClauseFileAt p vs file)) → IsFindCaused proves budget bytes answer
  nowhere : answer.status ≡ 1 → PosesOne bytes (λ p. Fits p × IsProvedNowhere p) → IsFindCaused proves budget bytes answer
