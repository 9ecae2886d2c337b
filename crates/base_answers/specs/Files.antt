-- The answer to a file of at most this many bytes, and to a longer one.
use Rattle.std.specs.Prelude.{◌≡◌, ◌<◌, ◌≤◌, ℕ, List, length, Option}
use Rattle.prover_io.specs.Outside.{IsWhole}
use Rattle.base_answers.specs.Answer.{Answer, long_answer}

-- how many bytes a problem's file has at most, and a proof's
abbrev pub most_of_file : ℕ
most_of_file = 1048576

abbrev pub most_of_proof : ℕ
most_of_proof = 67108864

-- the answer to these bytes: that they are more than this many, or else one of these
pub data AnswersBytes (most : ℕ) (IsAnswer : List ℕ → Answer → Type 0) (bytes : List ℕ) (answer : Answer) : Type 0 where
  too_long : most < length bytes → answer ≡ long_answer → AnswersBytes most IsAnswer bytes answer
  within : length bytes ≤ most → IsAnswer bytes answer → AnswersBytes most IsAnswer bytes answer

-- the answer to a file of the bytes that are told, and where none are, to some file
pub record AnswersSource (most : ℕ) (IsAnswer : List ℕ → Answer → Type 0) (told : Option (List ℕ)) (answer : Answer) : Type 0 where
  pub bytes : List ℕ
  pub whole : IsWhole told bytes
  pub is : AnswersBytes most IsAnswer bytes answer
