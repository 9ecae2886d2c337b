-- What is told of the check of a proof.
use Rattle.std.specs.Prelude.{◌≡◌, ◌≢◌, ℕ, ℤ, List, [], ◌++◌, length, codes}
use Rattle.std.specs.Fmt.{decimal}
use Rattle.clause_set.specs.declared.literal.Literal.{Literal}
use Rattle.elim_laws.specs.Whole.{AreOver}
use Rattle.proof_tree.specs.declared.run.Verdict.{Verdict}
use Rattle.proof_tree.specs.declared.run.Verdict.TheVariants.{Valid, Invalid}
use Rattle.clause_file.specs.declared.fault.ClauseFault.{ClauseFault}
use Rattle.clause_file.specs.declared.fault.ClauseFault.TheVariants as clause
use Rattle.tree_checker.specs.declared.checking.Checked.{Checked}
use Rattle.tree_checker.specs.declared.text.TextFault.{TextFault}
use Rattle.tree_checker.specs.declared.text.TextFault.TheVariants as text
use Rattle.pri_typing.specs.declared.problem.Problem.{Problem}
use Rattle.base_answers.specs.Answer.{Answer, says_line, refused_proof_answer}
use Rattle.pri_lines.specs.Lines.{AreValuedLines}

-- a proof of validity has a value for each existential constant
abbrev pub HasValues : Problem → Verdict → Type 0
HasValues p (Valid vs) = length vs ≡ length p.existentials
HasValues p Invalid = Unit {0}

-- what was accepted is of the existential constants
pub record IsFitting (p : Problem) (k : Checked) : Type 0 where
  pub over : AreOver (length p.existentials) k.constraint
  pub values : HasValues p k.verdict

-- the answer says that a proof of validity is accepted
pub data IsCheckedValid (p : Problem) (d : List (List Literal)) (vs : List ℤ) (answer : Answer) : Type 0 where
  alone : p.existentials ≡ [] → answer ≡ says_line 0 (codes "CHECKED VALID") → IsCheckedValid p d vs answer
  lines : (text : List ℕ) → p.existentials ≢ [] → AreValuedLines (codes "CHECKED VALID") p d vs text → answer ≡ record { status = 0; text = text } → IsCheckedValid p d vs answer

abbrev pub TellsVerdict : Problem → List (List Literal) → Verdict → Answer → Type 0
TellsVerdict p d (Valid vs) answer = IsCheckedValid p d vs answer
TellsVerdict p d Invalid answer = answer ≡ says_line 0 (codes "CHECKED INVALID")

-- the answer says why the proof is refused; none tells running out of memory
abbrev pub TellsFault : TextFault → Answer → Type 0
TellsFault (text.Syntax at) answer = answer ≡ refused_proof_answer (codes "Syntax at " ++ decimal at)
TellsFault (text.Deep at) answer = answer ≡ refused_proof_answer (codes "Deep at " ++ decimal at)
TellsFault (text.Node n) answer = answer ≡ refused_proof_answer (codes "node " ++ decimal n)
TellsFault (text.Range n place) answer = answer ≡ refused_proof_answer (codes "range " ++ decimal n)
TellsFault (text.Cost n) answer = answer ≡ refused_proof_answer (codes "cost " ++ decimal n)
TellsFault text.Memory answer = ⊥

-- the answer says why the clause proof is refused; none tells running out of memory
abbrev pub TellsClauseFault : ClauseFault → Answer → Type 0
TellsClauseFault (clause.Syntax at) answer = answer ≡ refused_proof_answer (codes "Syntax at " ++ decimal at)
TellsClauseFault (clause.Line n) answer = answer ≡ refused_proof_answer (codes "line " ++ decimal n)
TellsClauseFault (clause.Range n) answer = answer ≡ refused_proof_answer (codes "range " ++ decimal n)
TellsClauseFault (clause.Cost n) answer = answer ≡ refused_proof_answer (codes "cost " ++ decimal n)
TellsClauseFault clause.Memory answer = ⊥
