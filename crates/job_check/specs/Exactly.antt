-- Where a check accepts.
use Rattle.std.specs.Prelude.{◌≡◌, ◌⊎◌, ◌++◌, ℕ, ℤ, true, List, length, codes}
use Rattle.std.specs.Fmt.{decimal}
use Rattle.proof_tree.specs.declared.node.Conclusion.{Conclusion}
use Rattle.proof_tree.specs.declared.run.Verdict.{Verdict}
use Rattle.proof_tree.specs.Proof.{Proof}
use Rattle.proof_tree.specs.Proves.{Proves}
use Rattle.proof_grammar.specs.Shaped.{IsTextOfProof}
use Rattle.proof_file.specs.Body.{body}
use Rattle.form_encoding.specs.Problems.{problem_root}
use Rattle.pri_typing.specs.declared.problem.Problem.{Problem}
use Rattle.base_answers.specs.Answer.{Answer, refused_proof_answer}
use Rattle.clause_file.specs.Answers.{is_clause_text}
use Rattle.job_check.specs.Clauses.{Shows}

-- the file holds a proof tree of the problem
pub record HoldsTree (p : Problem) (proof : List ℕ) : Type 0 where
  pub tree : Proof
  pub conclusion : Conclusion
  pub charges : ℕ
  pub verdict : Verdict
  pub holds : IsTextOfProof (body proof) charges tree conclusion
  pub proves : Proves (problem_root p).value (length p.existentials) tree conclusion charges verdict

-- the file holds a clause proof of the problem, at some values of its existential constants
pub record HoldsClauses (p : Problem) (proof : List ℕ) : Type 0 where
  pub values : List ℤ
  pub holds : Shows p proof values

-- the check of a clause proof was cut by a number that leaves the range, or by the charges: this answer says nothing of the proof
pub data IsCutAnswer (answer : Answer) : Type 0 where
  range : (line : ℕ) → answer ≡ refused_proof_answer (codes "range " ++ decimal line) → IsCutAnswer answer
  cost : (line : ℕ) → answer ≡ refused_proof_answer (codes "cost " ++ decimal line) → IsCutAnswer answer

-- the status is 0, so that the file holds a proof of the problem, or 4; a file that holds one has status 0, but for a cut of a clause
-- proof
pub record IsDecided (p : Problem) (proof : List ℕ) (answer : Answer) : Type 0 where
  pub accepts : answer.status ≡ 0 → HoldsTree p proof ⊎ HoldsClauses p proof
  pub tree : HoldsTree p proof → answer.status ≡ 0
  pub clauses : HoldsClauses p proof → (answer.status ≡ 0) ⊎ IsCutAnswer answer
  pub decides : (answer.status ≡ 0) ⊎ (answer.status ≡ 4)

-- two answers are one, but where the proof is a clause proof and one of them says that its check was cut
abbrev pub IsOneAnswer : List ℕ → Answer → Answer → Type 0
IsOneAnswer proof a b = (a ≡ b) ⊎ ((is_clause_text proof ≡ true) × (IsCutAnswer a ⊎ IsCutAnswer b))
