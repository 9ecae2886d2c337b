-- What a dialogue means.
use Rattle.std.specs.Prelude.{◌≡◌, ℕ, List, ◌++◌}
use Rattle.form_typed.specs.Truth.{Meaning}
use Rattle.smt_commands.specs.declared.refusal.ScriptRefusal.{ScriptRefusal}
use Rattle.job_smt.specs.Meaning.{Scripted}
use Rattle.job_dialogue.specs.declared.spots.Spot.{Spot}
use Rattle.job_dialogue.specs.Errors.{error_line}
use Rattle.job_dialogue.specs.Held.{Held}
use Rattle.job_dialogue.specs.Dialogue.{IsDialogue}

-- These pieces are answered by a beginning of the text.
pub record HasBegun (budget : ℕ) (pieces : List (List ℕ)) (text : List ℕ) : Type 0 where
  pub held : Held
  pub front : List ℕ
  pub back : List ℕ
  pub parts : text ≡ front ++ back
  pub answers : IsDialogue budget pieces held front

-- A check is answered by an error; or each answer in the text says what is so in the script of what is in force and the check.
pub data IsCheckTold (w : Meaning) (script text : List ℕ) : Type 0 where
  says : Scripted w script text → IsCheckTold w script text
  fails : (s : Spot) (e : ScriptRefusal) → text ≡ error_line s e → IsCheckTold w script text
