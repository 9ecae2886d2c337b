-- Answers and the texts of their lines.
use Rattle.std.specs.Prelude.{ℕ, List, [], ◌∷◌, ◌++◌, IsTrue, ◌==◌, codes}
use Rattle.std.specs.List.{list_any}
use Rattle.std.specs.Fmt.{decimal}
use Rattle.base_answers.specs.declared.output.Output.{Output}

-- an exit status and the text that goes with it
pub record Answer : Type 0 where
  pub status : ℕ
  pub text : List ℕ

-- an output as its status and its bytes
abbrev pub answer_of : Output → Answer
answer_of output = record { status = output.status; text = output.text.items }

-- a text as one line
abbrev pub line : List ℕ → List ℕ
line text = text ++ 10 ∷ []

-- an answer of one line
abbrev pub says_line : ℕ → List ℕ → Answer
says_line status text = record { status = status; text = line text }

-- a name with the offset of its place
abbrev pub placed : List ℕ → ℕ → List ℕ
placed name at = name ++ (codes " at " ++ decimal at)

-- the answer to a file that is refused
abbrev pub refused_answer : List ℕ → Answer
refused_answer name = says_line 3 (codes "refused: " ++ name)

-- the answer that is not known, with its cause
abbrev pub unknown_answer : List ℕ → Answer
unknown_answer cause = says_line 2 (codes "UNKNOWN: " ++ cause)

-- the answer to a proof that is refused
abbrev pub refused_proof_answer : List ℕ → Answer
refused_proof_answer name = says_line 4 (codes "refused proof: " ++ name)

-- the answer to words that name no job
abbrev pub words_answer : Answer
words_answer = says_line 5 (codes "refused words")

-- the answer to a file that is too long
abbrev pub long_answer : Answer
long_answer = says_line 9 (codes "refused: file too long")

-- the statuses that answers of jobs have
abbrev pub IsAnswerStatus : ℕ → Type 0
IsAnswerStatus status = IsTrue (list_any (λ s. s == status) (0 ∷ 1 ∷ 2 ∷ 3 ∷ 4 ∷ 9 ∷ []))

-- the statuses that come with a text: those of answers, and 5 where the words are refused
abbrev pub IsTextStatus : ℕ → Type 0
IsTextStatus status = IsTrue (list_any (λ s. s == status) (0 ∷ 1 ∷ 2 ∷ 3 ∷ 4 ∷ 5 ∷ 9 ∷ []))

-- the statuses that a run ends with: those of answers, and 6, 7 and 8
abbrev pub IsStatus : ℕ → Type 0
IsStatus ends = IsTrue (list_any (λ s. s == ends) (0 ∷ 1 ∷ 2 ∷ 3 ∷ 4 ∷ 5 ∷ 6 ∷ 7 ∷ 8 ∷ 9 ∷ []))
