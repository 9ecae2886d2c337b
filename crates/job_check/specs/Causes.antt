-- Where each answer of `check` comes.
use Rattle.std.specs.Prelude.{◌≡◌, ◌≢◌, ◌↔◌, ◌⊎◌, ℕ, true, false, List, ◌++◌, codes}
use Rattle.std.specs.Fmt.{decimal}
use Rattle.linear_term.specs.declared.range.Place.{Place}
use Rattle.proof_tree.specs.declared.node.Conclusion.{Conclusion}
use Rattle.proof_tree.specs.Proof.{Proof}
use Rattle.proof_file.specs.declared.refusal.ProofRefusal.TheVariants as r
use Rattle.proof_file.specs.Refused.{RefusesProofFile}
use Rattle.tree_checker.specs.Faults.{Check, wrong, too_costly, leaves}
use Rattle.clause_file.specs.Answers.{is_clause_text}
use Rattle.pri_typing.specs.declared.problem.Problem.{Problem}
use Rattle.base_answers.specs.Answer.{Answer, placed, refused_answer, refused_proof_answer, unknown_answer}
use Rattle.pri_problem.specs.Reads.{Refusal, FirstRefusal}
use Rattle.pri_problem.specs.Refusals.{refusal_name}
use Rattle.pri_problem.specs.Refused.{ComesOf, IsRefused}
use Rattle.pri_problem.specs.Answers.{Poses, PosesOne}
use Rattle.pri_problem.specs.Encoded.{Fits, IsLarge, LeavesRange}
use Rattle.job_check.specs.Checked.{Judged}
use Rattle.job_check.specs.Clauses.{HasDearLine, HasWrongLine, IsRefusedText, ReachesLine}
use Rattle.job_check.specs.Exactly.{HoldsClauses, HoldsTree, IsCutAnswer}

-- the file holds a proof of which the check, for the encoding of the problem, answers this
abbrev pub IsJudgedTree : Problem → List ℕ → Check → Type 0
IsJudgedTree p proof answer = (x : Proof) × (c : Conclusion) × (charges : ℕ) × Judged p proof x c charges answer

-- the number is written as one that is so
abbrev pub IsWrittenOf : (ℕ → Type 0) → ℕ → Type 0
IsWrittenOf Is n = (m : ℕ) × Is m × (decimal m ≡ decimal n)

-- the answer is this refusal of a proof, at a number, exactly where there is cause
pub record ComesWhere (answer : Answer) (word : List ℕ) (IsCause : ℕ → Type 0) : Type 0 where
  pub there : (n : ℕ) → IsCause n → answer ≡ refused_proof_answer (word ++ decimal n)
  pub only : (n : ℕ) → answer ≡ refused_proof_answer (word ++ decimal n) → IsWrittenOf IsCause n

-- the same of a check that may be cut before it comes there
pub record ComesUnlessCut (answer : Answer) (word : List ℕ) (IsCause : ℕ → Type 0) : Type 0 where
  pub there : (n : ℕ) → IsCause n → (answer ≡ refused_proof_answer (word ++ decimal n)) ⊎ IsCutAnswer answer
  pub only : (n : ℕ) → answer ≡ refused_proof_answer (word ++ decimal n) → IsWrittenOf IsCause n

-- the answer to a proof tree comes exactly where its row says: accepted where the file holds a proof of the problem; else refused, where
-- the file is refused at that place, and where the proof that it holds is wrong there, charges too much there, or computes a number there
-- that leaves the range
pub record AreTreeCauses (p : Problem) (proof : List ℕ) (answer : Answer) : Type 0 where
  pub accepts : (answer.status ≡ 0) ↔ HoldsTree p proof
  pub refuses : (answer.status ≡ 4) ↔ (¬ (HoldsTree p proof))
  pub syntax : ComesWhere answer (codes "Syntax at ") (λ at. RefusesProofFile proof (r.Syntax at))
  pub deep : ComesWhere answer (codes "Deep at ") (λ at. RefusesProofFile proof (r.Deep at))
  pub node : ComesWhere answer (codes "node ") (λ m. IsJudgedTree p proof (wrong m))
  pub range : ComesWhere answer (codes "range ") (λ m. (numbers : List Place) × IsJudgedTree p proof (leaves m numbers))
  pub cost : ComesWhere answer (codes "cost ") (λ m. IsJudgedTree p proof (too_costly m))

-- the same of a clause proof: refused where the file is refused at that place, and where that line makes nothing; a cut says how far the
-- check came
pub record AreClauseCauses (p : Problem) (proof : List ℕ) (answer : Answer) : Type 0 where
  pub accepts : answer.status ≡ 0 → HoldsClauses p proof
  pub holds : HoldsClauses p proof → (answer.status ≡ 0) ⊎ IsCutAnswer answer
  pub syntax : ComesUnlessCut answer (codes "Syntax at ") (IsRefusedText p proof)
  pub line : ComesUnlessCut answer (codes "line ") (HasWrongLine p proof)
  pub range : (n : ℕ) → answer ≡ refused_proof_answer (codes "range " ++ decimal n) → IsWrittenOf (ReachesLine p proof) n
  pub cost : (n : ℕ) → answer ≡ refused_proof_answer (codes "cost " ++ decimal n) → IsWrittenOf (HasDearLine p proof) n

-- the answer to a problem whose encoding fits, and to the proof in a file
pub record AreProofCauses (p : Problem) (proof : List ℕ) (answer : Answer) : Type 0 where
  pub tree : is_clause_text proof ≡ false → AreTreeCauses p proof answer
  pub clauses : is_clause_text proof ≡ true → AreClauseCauses p proof answer
  pub decides : (answer.status ≡ 0) ⊎ (answer.status ≡ 4)

-- each answer comes exactly where its row says, and a refusal with the name and the place
pub record CheckCauses (proof bytes : List ℕ) (answer : Answer) : Type 0 where
  pub judged : (p : Problem) → Poses bytes p → Fits p → AreProofCauses p proof answer
  pub overflow : (answer ≡ unknown_answer (codes "overflow")) ↔ PosesOne bytes LeavesRange
  pub refuses : (answer.status ≡ 3) ↔ IsRefused bytes
  pub never : answer.status ≢ 1
  pub refused : (r : Refusal) → FirstRefusal bytes r → answer ≡ refused_answer (refusal_name r)
  pub only : (r : Refusal) → answer ≡ refused_answer (refusal_name r) → ComesOf bytes r
  pub large : PosesOne bytes IsLarge → answer ≡ refused_answer (codes "Large")
