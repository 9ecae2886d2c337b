-- What is told of a valid problem, and of a search without an answer.
use Rattle.std.specs.Prelude.{◌≡◌, ◌≢◌, ℕ, ℤ, List, [], codes}
use Rattle.clause_set.specs.declared.literal.Literal.{Literal}
use Rattle.proof_tree.specs.declared.run.Why.{Why}
use Rattle.proof_tree.specs.declared.run.Why.TheVariants as why
use Rattle.pri_typing.specs.declared.problem.Problem.{Problem}
use Rattle.base_answers.specs.Answer.{Answer}
use Rattle.pri_lines.specs.Lines.{AreValuedLines}
use Rattle.itp_lines.specs.Blocks.{IsBlocksText}
use Rattle.base_budget.specs.Trace.{Funds}
use Rattle.job_solve.specs.Solved.{closed_answer}

-- the answer says that a problem without existential constants is valid, with the lines of its blocks on a purse that the run left
-- so
abbrev pub AreClosedLines : Problem → Funds → Answer → Type 0
AreClosedLines p left answer = (blocks : List ℕ) × IsBlocksText p left blocks × (answer ≡ closed_answer blocks)

-- the answer says that the problem is valid
pub data IsValidTold (p : Problem) (left : Funds) (d : List (List Literal)) (vs : List ℤ) (answer : Answer) : Type 0 where
  alone : p.existentials ≡ [] → AreClosedLines p left answer → IsValidTold p left d vs answer
  lines : (text : List ℕ) → p.existentials ≢ [] → AreValuedLines (codes "VALID") p d vs text → answer ≡ record { status = 0; text = text } → IsValidTold p left d vs answer

-- what a search without an answer has met
abbrev pub cause_text : Why → List ℕ
cause_text why.Steps = codes "steps"
cause_text (why.Overflow place) = codes "overflow"
cause_text why.Branch = codes "branch"
