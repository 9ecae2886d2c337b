-- The answer to a problem by its encoding, and to a problem without applications.
use Rattle.std.specs.Prelude.{◌≡◌, ◌↔◌, ℕ, ℤ, true, false, List, length, Some, None, codes}
use Rattle.form_typed.specs.Truth.{Meaning}
use Rattle.base_budget.specs.Runs.{raw_stay}
use Rattle.pri_typing.specs.declared.problem.Problem.{Problem}
use Rattle.pri_typing.specs.Problems.{Holds, IsPure}
use Rattle.formula.specs.Form.{FormTruth, IsFormOver, is_pure}
use Rattle.formula.specs.Tree.{form}
use Rattle.form_encoding.specs.Problems.{is_large, problem_root}
use Rattle.function_encoding.specs.declared.answer.Encoded.{Encoded}
use Rattle.function_encoding.specs.declared.answer.EncodeRefusal.{EncodeRefusal}
use Rattle.function_encoding.specs.declared.answer.EncodeRefusal.TheVariants.{Large, Overflow, Memory}
use Rattle.base_answers.specs.Answer.{Answer, answer_of, placed, refused_answer, unknown_answer}
use Rattle.base_answers.specs.declared.output.Output.{Output}

-- the encoded problem has more than 1,000,000 nodes or more than 2,000 levels
abbrev pub IsLarge : Problem → Type 0
IsLarge p = is_large (problem_root p).value ≡ true

-- it has not, and a number of it leaves the range
abbrev pub LeavesRange : Problem → Type 0
LeavesRange p = (is_large (problem_root p).value ≡ false) × (raw_stay (problem_root p).events ≡ false)

-- it has not, and all its numbers stay in the range
abbrev pub Fits : Problem → Type 0
Fits p = (is_large (problem_root p).value ≡ false) × (raw_stay (problem_root p).events ≡ true)

-- the answer to a problem: that its encoding is large, or that it leaves the range, or else one of these
pub data AnswersEncoded (IsAnswer : Problem → Answer → Type 0) (p : Problem) (answer : Answer) : Type 0 where
  large : IsLarge p → answer ≡ refused_answer (codes "Large") → AnswersEncoded IsAnswer p answer
  leaves : LeavesRange p → answer ≡ unknown_answer (codes "overflow") → AnswersEncoded IsAnswer p answer
  runs : Fits p → IsAnswer p answer → AnswersEncoded IsAnswer p answer

-- the answer to a problem: that it has an application, and first there, or else one of these
pub data AnswersPure (IsAnswer : Problem → Answer → Type 0) (p : Problem) (answer : Answer) : Type 0 where
  impure : (at : ℕ) → p.first_application ≡ Some at → answer ≡ refused_answer (placed (codes "Impure") at) → AnswersPure IsAnswer p answer
  pure : p.first_application ≡ None → IsAnswer p answer → AnswersPure IsAnswer p answer

-- an encoded problem, in code: it fits, and in every interpretation it is true where the problem holds
pub record IsEncoded (p : Problem) (e : Encoded) : Type 0 where
  pub fits : Fits p
  pub root : form e.root ≡ (problem_root p).value
  pub constants : e.constants ≡ length p.existentials
  pub over : IsFormOver (length p.existentials) (form e.root)
  pub small : is_large (form e.root) ≡ false
  pub pure : (is_pure (form e.root) ≡ true) ↔ IsPure p
  pub truth : (w : Meaning) (v : List ℤ) → length v ≡ length p.existentials → FormTruth w (form e.root) v ↔ Holds w p v

-- what it says of a problem that there is no encoding; running out of memory says nothing
abbrev pub RefusesEncoding : Problem → EncodeRefusal → Type 0
RefusesEncoding p Large = IsLarge p
RefusesEncoding p (Overflow place) = LeavesRange p
RefusesEncoding p Memory = Unit {0}

-- the output tells why there is no encoding; none tells running out of memory
abbrev pub IsToldUnencoded : EncodeRefusal → Output → Type 0
IsToldUnencoded Large output = answer_of output ≡ refused_answer (codes "Large")
IsToldUnencoded (Overflow place) output = answer_of output ≡ unknown_answer (codes "overflow")
IsToldUnencoded Memory output = ⊥
