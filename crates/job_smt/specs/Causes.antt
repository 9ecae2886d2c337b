-- Where each answer of `smt` comes.
use Rattle.std.specs.Prelude.{◌≡◌, ◌≢◌, ◌↔◌, ◌⊎◌, ℕ, true, List, codes}
use Rattle.std.specs.List.{Contains, list_any}
use Rattle.pri_typing.specs.declared.problem.Problem.{Problem}
use Rattle.base_answers.specs.Answer.{Answer, refused_answer}
use Rattle.pri_problem.specs.Encoded.{IsLarge}
use Rattle.smt_commands.specs.declared.refusal.ScriptRefusal.{ScriptRefusal}
use Rattle.smt_commands.specs.declared.refusal.ScriptRefusal.TheVariants as r
use Rattle.smt_reader.specs.declared.replies.Reply.{Reply}
use Rattle.smt_reader.specs.Poses.{IsScriptOf, IsScriptRefusal, IsScriptWith}
use Rattle.job_smt.specs.declared.models.Checked.{Checked}
use Rattle.job_smt.specs.Answers.{AllAlike, AreCheckAnswers, is_open, lines_answer, refused_after}
use Rattle.job_smt.specs.Answered.{IsBegun, before, refusal_name}

-- the text is refused so as a script; running out of memory is no refusal
abbrev pub IsTextRefused : List ℕ → ScriptRefusal → Type 0
IsTextRefused bytes e = IsScriptRefusal bytes e × (e ≢ r.Memory)

-- the text is a script, and the encoding of one of its checks is too large
abbrev pub HasLargeCheck : List ℕ → Type 0
HasLargeCheck bytes = (ps : List Problem) × (p : Problem) × IsScriptOf bytes ps × Contains ps p × IsLarge p

-- the file is refused: as a script, or for a check
abbrev pub IsSmtRefused : List ℕ → Type 0
IsSmtRefused bytes = ((e : ScriptRefusal) × IsTextRefused bytes e) ⊎ HasLargeCheck bytes

-- a refusal with the name and the place of this one
abbrev pub ComesOfScript : List ℕ → ScriptRefusal → Type 0
ComesOfScript bytes e = ((d : ScriptRefusal) × IsTextRefused bytes d × (refusal_name d ≡ refusal_name e)) ⊎ ((refusal_name e ≡ codes "Large") × HasLargeCheck bytes)

-- the text is a script that asks for these replies, and these are answers to its checks
abbrev pub AreAnswered : ℕ → List ℕ → List Reply → List Checked → Type 0
AreAnswered budget bytes told xs = (ps : List Problem) × IsScriptWith bytes ps told × AreCheckAnswers budget ps xs

-- The refusal of this name stands after what is told of a text.
abbrev pub IsRefusedAfter : ℕ → List ℕ → List ℕ → Answer → Type 0
IsRefusedAfter budget bytes name answer = (text : List ℕ) × IsBegun budget bytes text × (answer ≡ refused_after text name)

-- each answer comes exactly where its row says, and a refusal with the name and the place, after what is told of the text before it; of
-- other answers to the checks none contradicts those that are told
pub record SmtCauses (budget : ℕ) (bytes : List ℕ) (answer : Answer) : Type 0 where
  pub answers : (told : List Reply) (xs : List Checked) → AreAnswered budget bytes told xs → (ys : List Checked) × AreAnswered budget bytes told ys × (answer ≡ lines_answer told ys) × AllAlike ys xs
  pub answered : (answer.status ≡ 0) ⊎ (answer.status ≡ 2) → (told : List Reply) × (xs : List Checked) × AreAnswered budget bytes told xs × (answer ≡ lines_answer told xs)
  pub unknown : (answer.status ≡ 2) ↔ ((told : List Reply) × (xs : List Checked) × AreAnswered budget bytes told xs × (answer ≡ lines_answer told xs) × (list_any is_open xs ≡ true))
  pub refuses : (answer.status ≡ 3) ↔ IsSmtRefused bytes
  pub refused : (e : ScriptRefusal) → IsTextRefused bytes e → IsRefusedAfter budget (before bytes e) (refusal_name e) answer
  pub only : (e : ScriptRefusal) → answer ≡ refused_answer (refusal_name e) → ComesOfScript bytes e
  pub large : HasLargeCheck bytes → IsRefusedAfter budget bytes (codes "Large") answer
  pub never : answer.status ≢ 1
