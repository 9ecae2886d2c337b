-- Why a problem's file is refused.
use Rattle.std.specs.Prelude.{◌≡◌, ℕ, List}
use Rattle.pri_problem.specs.Reads.{Refusal, FirstRefusal}
use Rattle.pri_problem.specs.Refusals.{refusal_name}
use Rattle.pri_problem.specs.Answers.{PosesOne}
use Rattle.pri_problem.specs.Encoded.{IsLarge}

-- the file is refused: by its first refusal, or as large
pub data IsRefused (bytes : List ℕ) : Type 0 where
  first : (r : Refusal) → FirstRefusal bytes r → IsRefused bytes
  too_large : PosesOne bytes IsLarge → IsRefused bytes

-- the name of this refusal is that of the first refusal of the bytes
abbrev pub ComesOf : List ℕ → Refusal → Type 0
ComesOf bytes r = (q : Refusal) × FirstRefusal bytes q × (refusal_name q ≡ refusal_name r)
