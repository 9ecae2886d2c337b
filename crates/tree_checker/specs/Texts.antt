-- What a check of a file answers.
use Rattle.std.specs.Prelude.{ℕ, List, Result, Ok, Err}
use Rattle.formula.specs.Form.{Form}
use Rattle.proof_tree.specs.declared.node.Conclusion.{Conclusion}
use Rattle.proof_tree.specs.Proof.{Proof}
use Rattle.proof_grammar.specs.Shaped.{IsTextOfProof}
use Rattle.proof_file.specs.declared.refusal.ProofRefusal.{ProofRefusal}
use Rattle.proof_file.specs.declared.refusal.ProofRefusal.TheVariants as refusal
use Rattle.proof_file.specs.Body.{body}
use Rattle.proof_file.specs.Refused.{RefusesProofFile}
use Rattle.tree_checker.specs.declared.checking.Checked.{Checked}
use Rattle.tree_checker.specs.declared.checking.CheckFault.{CheckFault}
use Rattle.tree_checker.specs.declared.checking.CheckFault.TheVariants as fault
use Rattle.tree_checker.specs.declared.text.TextFault.{TextFault}
use Rattle.tree_checker.specs.declared.text.TextFault.TheVariants as text
use Rattle.tree_checker.specs.Answering.{ChecksAs}

-- the file holds a proof, of which this is the answer
abbrev pub Judges : Form → ℕ → List ℕ → Result Checked CheckFault → Type 0
Judges f n bytes r = (charges : ℕ) × (x : Proof) × (c : Conclusion) × IsTextOfProof (body bytes) charges x c × ChecksAs f n x c charges r

-- what a check of the proof in a file answers: that of its proof, where it holds one, and else its refusal
abbrev pub ChecksText : Form → ℕ → List ℕ → Result Checked TextFault → Type 0
ChecksText f n bytes (Ok k) = Judges f n bytes (Ok k)
ChecksText f n bytes (Err (text.Syntax at)) = RefusesProofFile bytes (refusal.Syntax at)
ChecksText f n bytes (Err (text.Deep at)) = RefusesProofFile bytes (refusal.Deep at)
ChecksText f n bytes (Err (text.Node m)) = Judges f n bytes (Err (fault.Node m))
ChecksText f n bytes (Err (text.Range m p)) = Judges f n bytes (Err (fault.Range m p))
ChecksText f n bytes (Err (text.Cost m)) = Judges f n bytes (Err (fault.Cost m))
ChecksText f n bytes (Err text.Memory) = Unit {0}

-- the answer of a check, and the refusal of a text, as answers to a file
abbrev pub told_as : Result Checked CheckFault → Result Checked TextFault
told_as (Ok k) = Ok k
told_as (Err (fault.Node m)) = Err (text.Node m)
told_as (Err (fault.Range m p)) = Err (text.Range m p)
told_as (Err (fault.Cost m)) = Err (text.Cost m)
told_as (Err fault.Memory) = Err text.Memory

abbrev pub refused_as : ProofRefusal → TextFault
refused_as (refusal.Syntax at) = text.Syntax at
refused_as (refusal.Deep at) = text.Deep at
refused_as refusal.Memory = text.Memory
