-- What `check` answers to a clause proof: one row for each answer of its check.
use Rattle.std.specs.Prelude.{◌≡◌, ◌≢◌, ℕ, ℤ, List, [], ◌++◌, length, codes}
use Rattle.std.specs.Fmt.{decimal}
use Rattle.form_encoding.specs.Problems.{problem_root}
use Rattle.model_trees.specs.Walk.{point}
use Rattle.pri_typing.specs.declared.problem.Problem.{Problem}
use Rattle.base_answers.specs.Answer.{Answer, line, says_line, refused_proof_answer}
use Rattle.pri_lines.specs.Lines.{valued_lines}
use Rattle.pri_lines.specs.Constraint.{IsTextOf}
use Rattle.clause_file.specs.Costs.{IsCostAt}
use Rattle.clause_file.specs.Ranges.{IsRangeAt}
use Rattle.clause_file.specs.Verdicts.{HoldsClauseProof, IsRefusedFirst, IsWrongAt}

-- the file holds a clause proof of the problem, with these values of its existential constants
abbrev pub Shows : Problem → List ℕ → List ℤ → Type 0
Shows p proof vs = HoldsClauseProof (problem_root p).value (length p.existentials) proof vs

-- the file is refused at this place, and no line before makes nothing
abbrev pub IsRefusedText : Problem → List ℕ → ℕ → Type 0
IsRefusedText p proof at = IsRefusedFirst (problem_root p).value (length p.existentials) proof at

-- this line of the file makes nothing, and those before it do
abbrev pub HasWrongLine : Problem → List ℕ → ℕ → Type 0
HasWrongLine p proof at = IsWrongAt (problem_root p).value (length p.existentials) proof at

-- this line of the file is the first that the charges of the proof do not pay for
abbrev pub HasDearLine : Problem → List ℕ → ℕ → Type 0
HasDearLine p proof at = IsCostAt (problem_root p).value (length p.existentials) proof at

-- a number can leave the range at this line of the file: all before it is read and made
abbrev pub ReachesLine : Problem → List ℕ → ℕ → Type 0
ReachesLine p proof at = IsRangeAt (problem_root p).value (length p.existentials) proof at

-- the answer to a problem whose encoding fits, and the clause proof in a file: the problem holds where each existential constant has its
-- value
pub data AnswersClauses (proof : List ℕ) (p : Problem) (answer : Answer) : Type 0 where
  syntax : (at : ℕ) → IsRefusedText p proof at → answer ≡ refused_proof_answer (codes "Syntax at " ++ decimal at) → AnswersClauses proof p answer
  wrong : (at : ℕ) → HasWrongLine p proof at → answer ≡ refused_proof_answer (codes "line " ++ decimal at) → AnswersClauses proof p answer
  range : (at : ℕ) → ReachesLine p proof at → answer ≡ refused_proof_answer (codes "range " ++ decimal at) → AnswersClauses proof p answer
  cost : (at : ℕ) → HasDearLine p proof at → answer ≡ refused_proof_answer (codes "cost " ++ decimal at) → AnswersClauses proof p answer
  closed : (vs : List ℤ) → Shows p proof vs → p.existentials ≡ [] → answer ≡ says_line 0 (codes "CHECKED VALID") → AnswersClauses proof p answer
  valid : (vs : List ℤ) (text : List ℕ) → Shows p proof vs → p.existentials ≢ [] → IsTextOf p (point vs) text
      → answer ≡ record { status = 0; text = line (codes "CHECKED VALID") ++ valued_lines p text vs } → AnswersClauses proof p answer
