-- What `solve` answers: one row for each end of the canonical run on the encoded problem.
use Rattle.std.specs.Prelude.{◌≡◌, ◌≢◌, ℕ, ℤ, List, [], ◌++◌, codes}
use Rattle.linear_term.specs.declared.range.Place.{Place}
use Rattle.base_budget.specs.declared.log.Entry.{Entry}
use Rattle.base_budget.specs.Trace.{At}
use Rattle.proof_tree.specs.Proof.{Proof, given}
use Rattle.search.specs.Run as run
use Rattle.base_budget.specs.Ending.{Ending, ends_with, out_of_steps, overflows}
use Rattle.pri_typing.specs.declared.problem.Problem.{Problem}
use Rattle.base_answers.specs.Answer.{Answer, line, says_line, unknown_answer}
use Rattle.pri_lines.specs.Constraint.{IsTextOf}
use Rattle.pri_lines.specs.Lines.{valued_lines}
use Rattle.itp_lines.specs.Blocks.{IsBlocksText}
use Rattle.pri_problem.specs.Answers.{AnswersFile}
use Rattle.pri_problem.specs.Encoded.{AnswersEncoded}
use Rattle.job_solve.specs.Explained.{AnswersSaturated}
-- how the canonical run on the encoded problem ends
pub use Rattle.countermodel.specs.Explaining.{run_end}

-- the answer that a problem with existential constants is valid, with a constraint and values
abbrev pub valid_answer : Problem → List ℕ → List ℤ → Answer
valid_answer p x vs = record { status = 0; text = line (codes "VALID") ++ valued_lines p x vs }

-- the answer that a problem without existential constants is valid, with the lines of its `\interpolant` blocks
abbrev pub closed_answer : List ℕ → Answer
closed_answer lines = record { status = 0; text = line (codes "VALID") ++ lines }

-- the answer to a problem whose run ends so; the blocks have the purse as the run left it
pub data AnswersEnd (p : Problem) (end : Ending run.RunAnswer) (answer : Answer) : Type 0 where
  closed : (vs : List ℤ) (x : Proof) (stands : At) (lines : List ℕ) → end ≡ ends_with (run.valid vs x) stands → p.existentials ≡ [] → IsBlocksText p stands.funds lines
      → answer ≡ closed_answer lines → AnswersEnd p end answer
  valid : (vs : List ℤ) (x : Proof) (stands : At) (text : List ℕ) → end ≡ ends_with (run.valid vs x) stands → p.existentials ≢ [] → IsTextOf p (given x) text
      → answer ≡ valid_answer p text vs → AnswersEnd p end answer
  invalid : (log : List Entry) (x : Proof) (stands : At) → end ≡ ends_with (run.invalid log x) stands → answer ≡ says_line 1 (codes "INVALID") → AnswersEnd p end answer
  saturated : (log : List Entry) (x : Proof) (stands : At) → end ≡ ends_with (run.saturated log x) stands → AnswersSaturated p x stands.funds answer → AnswersEnd p end answer
  branch : (stands : At) → end ≡ ends_with run.too_long stands → answer ≡ unknown_answer (codes "branch") → AnswersEnd p end answer
  steps : (stands : At) → end ≡ out_of_steps stands → answer ≡ unknown_answer (codes "steps") → AnswersEnd p end answer
  overflow : (numbers : List Place) (stands : At) → end ≡ overflows numbers stands → answer ≡ unknown_answer (codes "overflow") → AnswersEnd p end answer

-- the answer to a problem whose encoding fits
abbrev pub AnswersRun : ℕ → Problem → Answer → Type 0
AnswersRun budget p answer = AnswersEnd p (run_end budget p) answer

-- the answer of `solve` with this budget to the bytes of a file
abbrev pub IsSolved : ℕ → List ℕ → Answer → Type 0
IsSolved budget = AnswersFile (AnswersEncoded (AnswersRun budget))
