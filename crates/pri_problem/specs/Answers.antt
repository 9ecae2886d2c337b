-- What a job answers to the bytes of a problem's file.
use Rattle.std.specs.Prelude.{◌≡◌, ℕ, List}
use Rattle.base_answers.specs.Answer.{Answer, refused_answer}
use Rattle.pri_typing.specs.declared.problem.Problem.{Problem}
use Rattle.pri_problem.specs.Reads.{Reads, Refusal, FirstRefusal}
use Rattle.pri_problem.specs.Refusals.{refusal_name}

-- the bytes pose the problem
pub record Poses (bytes : List ℕ) (p : Problem) : Type 0 where
  pub reads : Reads bytes p

-- the bytes pose a problem that is so
abbrev pub PosesOne : List ℕ → (Problem → Type 0) → Type 0
PosesOne bytes Is = (p : Problem) × Poses bytes p × Is p

-- the answer to a problem's file: a refusal, or, of the problem that it poses, one of these
pub data AnswersFile (IsAnswer : Problem → Answer → Type 0) (bytes : List ℕ) (answer : Answer) : Type 0 where
  refused : (r : Refusal) → FirstRefusal bytes r → answer ≡ refused_answer (refusal_name r) → AnswersFile IsAnswer bytes answer
  posed : (p : Problem) → Poses bytes p → IsAnswer p answer → AnswersFile IsAnswer bytes answer
