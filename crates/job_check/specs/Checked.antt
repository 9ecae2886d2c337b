-- What `check` answers: one row for each answer of the check of the proof in a file.
use Rattle.std.specs.Prelude.{◌≡◌, ◌≢◌, ℕ, ℤ, true, false, List, [], ◌++◌, length, codes}
use Rattle.std.specs.Fmt.{decimal}
use Rattle.linear_term.specs.declared.range.Place.{Place}
use Rattle.proof_tree.specs.declared.node.Conclusion.{Conclusion}
use Rattle.proof_tree.specs.declared.run.Verdict.TheVariants.{Valid, Invalid}
use Rattle.proof_tree.specs.Proof.{Proof, given}
use Rattle.proof_grammar.specs.Shaped.{IsTextOfProof}
use Rattle.proof_file.specs.declared.refusal.ProofRefusal.TheVariants as r
use Rattle.proof_file.specs.Body.{body}
use Rattle.proof_file.specs.Refused.{RefusesProofFile}
use Rattle.tree_checker.specs.Faults.{Check, accepted, wrong, too_costly, leaves, checked}
use Rattle.form_encoding.specs.Problems.{problem_root}
use Rattle.pri_typing.specs.declared.problem.Problem.{Problem}
use Rattle.base_answers.specs.Answer.{Answer, line, says_line, refused_proof_answer}
use Rattle.pri_lines.specs.Lines.{valued_lines}
use Rattle.pri_lines.specs.Constraint.{IsTextOf}
use Rattle.pri_problem.specs.Answers.{AnswersFile}
use Rattle.pri_problem.specs.Encoded.{AnswersEncoded}
use Rattle.clause_file.specs.Answers.{is_clause_text}
use Rattle.job_check.specs.Clauses.{AnswersClauses}

-- the file holds a proof of which the check, for the encoding of the problem, answers this
pub record Judged (p : Problem) (proof : List ℕ) (x : Proof) (c : Conclusion) (charges : ℕ) (answer : Check) : Type 0 where
  pub holds : IsTextOfProof (body proof) charges x c
  pub is : checked (problem_root p).value (length p.existentials) x c charges ≡ answer

-- the answer to a problem whose encoding fits, and the proof tree in a file
pub data AnswersTree (proof : List ℕ) (p : Problem) (answer : Answer) : Type 0 where
  syntax : (at : ℕ) → RefusesProofFile proof (r.Syntax at) → answer ≡ refused_proof_answer (codes "Syntax at " ++ decimal at) → AnswersTree proof p answer
  deep : (at : ℕ) → RefusesProofFile proof (r.Deep at) → answer ≡ refused_proof_answer (codes "Deep at " ++ decimal at) → AnswersTree proof p answer
  node : (x : Proof) (c : Conclusion) (charges m : ℕ) → Judged p proof x c charges (wrong m) → answer ≡ refused_proof_answer (codes "node " ++ decimal m) → AnswersTree proof p answer
  range : (x : Proof) (c : Conclusion) (charges m : ℕ) (numbers : List Place) → Judged p proof x c charges (leaves m numbers) → answer ≡ refused_proof_answer (codes "range " ++ decimal m)
      → AnswersTree proof p answer
  cost : (x : Proof) (c : Conclusion) (charges m : ℕ) → Judged p proof x c charges (too_costly m) → answer ≡ refused_proof_answer (codes "cost " ++ decimal m) → AnswersTree proof p answer
  closed : (x : Proof) (c : Conclusion) (charges : ℕ) (vs : List ℤ) → Judged p proof x c charges (accepted (Valid vs)) → p.existentials ≡ [] → answer ≡ says_line 0 (codes "CHECKED VALID")
      → AnswersTree proof p answer
  valid : (x : Proof) (c : Conclusion) (charges : ℕ) (vs : List ℤ) (text : List ℕ) → Judged p proof x c charges (accepted (Valid vs)) → p.existentials ≢ [] → IsTextOf p (given x) text
      → answer ≡ record { status = 0; text = line (codes "CHECKED VALID") ++ valued_lines p text vs } → AnswersTree proof p answer
  invalid : (x : Proof) (c : Conclusion) (charges : ℕ) → Judged p proof x c charges (accepted Invalid) → answer ≡ says_line 0 (codes "CHECKED INVALID") → AnswersTree proof p answer

-- the answer to a problem whose encoding fits, and the proof in a file: a clause proof where it begins as the third format does, else a
-- proof tree
pub data AnswersProof (proof : List ℕ) (p : Problem) (answer : Answer) : Type 0 where
  tree : is_clause_text proof ≡ false → AnswersTree proof p answer → AnswersProof proof p answer
  clauses : is_clause_text proof ≡ true → AnswersClauses proof p answer → AnswersProof proof p answer

-- the answer of `check` to the bytes of a proof's file and of a problem's file
abbrev pub IsChecked : List ℕ → List ℕ → Answer → Type 0
IsChecked proof = AnswersFile (AnswersEncoded (AnswersProof proof))
