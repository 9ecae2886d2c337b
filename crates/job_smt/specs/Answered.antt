-- The answer to the bytes of a script: the answers to its checks and what its other commands say, up to its refusal, if it has one.
use Rattle.std.specs.Prelude.{◌≡◌, ◌≢◌, ℕ, List, [], codes, take}
use Rattle.pri_typing.specs.declared.problem.Problem.{Problem}
use Rattle.base_answers.specs.Answer.{Answer, placed}
use Rattle.smt_lists.specs.Cuts.{last_cut}
use Rattle.smt_commands.specs.Least.{place_in}
use Rattle.smt_commands.specs.declared.refusal.ScriptRefusal.{ScriptRefusal}
use Rattle.smt_commands.specs.declared.refusal.ScriptRefusal.TheVariants as r
use Rattle.job_smt.specs.declared.models.Checked.{Checked}
use Rattle.job_smt.specs.Answers.{AreCheckAnswers, AreFirstAnswers, lines_answer, refused_after, replied}
use Rattle.smt_reader.specs.declared.replies.Reply.{Reply}
use Rattle.smt_reader.specs.Poses.{IsScriptRefusal, IsScriptWith}

-- the name of a refusal, with its place
abbrev pub refusal_name : ScriptRefusal → List ℕ
refusal_name (r.Syntax at) = placed (codes "Syntax") at
refusal_name (r.Literal at) = placed (codes "Literal") at
refusal_name (r.Deep at) = placed (codes "Deep") at
refusal_name (r.Undeclared at) = placed (codes "Undeclared") at
refusal_name (r.Redeclared at) = placed (codes "Redeclared") at
refusal_name (r.Arity at) = placed (codes "Arity") at
refusal_name (r.Kind at) = placed (codes "Kind") at
refusal_name (r.NonLinear at) = placed (codes "NonLinear") at
refusal_name (r.Many at) = placed (codes "Many") at
refusal_name r.Large = codes "Large"
refusal_name (r.Profile at) = placed (codes "Profile") at
refusal_name r.Memory = []

-- what stands before a refusal of a text: its outermost lists that end before the place
abbrev pub before : List ℕ → ScriptRefusal → List ℕ
before bytes e = take (last_cut bytes (place_in e)) bytes

-- What is told of a text whose rest is refused, with this budget for each check: it is a script, and all its checks are answered, or
-- those up to one that is too large; or it is refused too, and this is told of what stands before that.
pub data IsBegun (budget : ℕ) : List ℕ → List ℕ → Type 0 where
  told_whole : {bytes text : List ℕ} (ps : List Problem) (told : List Reply) (xs : List Checked) → IsScriptWith bytes ps told → AreCheckAnswers budget ps xs → text ≡ replied told xs → IsBegun budget bytes text
  told_short : {bytes text : List ℕ} (ps : List Problem) (told : List Reply) (xs : List Checked) → IsScriptWith bytes ps told → AreFirstAnswers budget ps xs → text ≡ replied told xs → IsBegun budget bytes text
  told_further : {bytes text : List ℕ} (e : ScriptRefusal) → IsScriptRefusal bytes e → e ≢ r.Memory → IsBegun budget (before bytes e) text → IsBegun budget bytes text

-- the answer to the bytes, with this budget for each check: the text is a script, and its checks are answered; or that up to one which is
-- too large, and that refusal; or the text is refused as a script, and its refusal stands after what is told of the text before it
pub data IsSmtAnswer (budget : ℕ) (bytes : List ℕ) (answer : Answer) : Type 0 where
  answered : (ps : List Problem) (told : List Reply) (xs : List Checked) → IsScriptWith bytes ps told → AreCheckAnswers budget ps xs → answer ≡ lines_answer told xs → IsSmtAnswer budget bytes answer
  large : (ps : List Problem) (told : List Reply) (xs : List Checked) → IsScriptWith bytes ps told → AreFirstAnswers budget ps xs → answer ≡ refused_after (replied told xs) (codes "Large") → IsSmtAnswer budget bytes answer
  refused : (e : ScriptRefusal) (text : List ℕ) → IsScriptRefusal bytes e → e ≢ r.Memory → IsBegun budget (before bytes e) text → answer ≡ refused_after text (refusal_name e) → IsSmtAnswer budget bytes answer
