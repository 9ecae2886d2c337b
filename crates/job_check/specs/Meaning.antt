-- What the answers of `check` mean.
use Rattle.std.specs.Prelude.{◌≡◌, ◌≢◌, ℕ, ℤ, List, [], ◌++◌, codes}
use Rattle.form_typed.specs.Truth.{Meaning}
use Rattle.pri_typing.specs.declared.problem.Problem.{Problem}
use Rattle.pri_typing.specs.Problems.{Holds, IsRefuted}
use Rattle.base_answers.specs.Answer.{Answer, line}
use Rattle.pri_lines.specs.Lines.{valued_lines}
use Rattle.pri_lines.specs.Meaning.{Supports}
use Rattle.pri_problem.specs.Reads.{Reads}

-- the text of an accepted proof says of the problem what is so: that it holds, without existential constants; that it holds where
-- the printed constraint is true, as it is at the printed values; or that it is refuted
pub data SaysSo (w : Meaning) (p : Problem) (text : List ℕ) : Type 0 where
  closed : p.existentials ≡ [] → text ≡ line (codes "CHECKED VALID") → Holds w p [] → SaysSo w p text
  supported : (x : List ℕ) (vs : List ℤ) → p.existentials ≢ [] → text ≡ line (codes "CHECKED VALID") ++ valued_lines p x vs → Supports w p x vs → SaysSo w p text
  refuted : text ≡ line (codes "CHECKED INVALID") → IsRefuted p → SaysSo w p text

-- the bytes read as a problem of which the text says what is so
pub record Confirms (w : Meaning) (bytes text : List ℕ) : Type 0 where
  pub problem : Problem
  pub reads : Reads bytes problem
  pub says : SaysSo w problem text

-- what an answer to a file of these bytes means
pub record CheckMeans (w : Meaning) (bytes : List ℕ) (answer : Answer) : Type 0 where
  pub accepted : answer.status ≡ 0 → Confirms w bytes answer.text
