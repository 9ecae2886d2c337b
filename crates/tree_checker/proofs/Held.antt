-- The proof that a file holds, checked.
use Rattle.std.proofs.Common.{◌≡◌, ◌∷◌, ◌++◌, ◌≤◌, [], ℕ, List, Result, Ok, Err, sym, subst}
use Rattle.base_budget.specs.declared.log.ElimLog.{ElimLog}
use Rattle.formula.specs.Form.{Form}
use Rattle.proof_tree.specs.declared.node.Conclusion.{Conclusion}
use Rattle.proof_tree.specs.Proof.{Proof}
use Rattle.proof_grammar.specs.Lines.{lines}
use Rattle.proof_grammar.specs.Owed.{Shallow}
use Rattle.proof_grammar.specs.declared.lines.TextLine.TheVariants as w
use Rattle.proof_grammar.specs.Shaped.{IsShapedNode}
use Rattle.proof_grammar.specs.declared.walk.Walk.{Walk}
use Rattle.proof_file.specs.declared.refusal.ProofRefusal.{ProofRefusal}
use Rattle.proof_file.specs.declared.refusal.ProofRefusal.TheVariants as refusal
use Rattle.proof_file.specs.Body.{body}
use Rattle.proof_file.specs.Coming.{Coming, HoldsAll}
use Rattle.proof_file.specs.Refused.{RefusesProofFile}
use Rattle.tree_checker.specs.declared.checking.Checked.{Checked}
use Rattle.tree_checker.specs.declared.checking.CheckFault.{CheckFault}
use Rattle.tree_checker.specs.declared.checking.CheckFault.TheVariants as fault
use Rattle.tree_checker.specs.declared.text.TextFault.{TextFault}
use Rattle.tree_checker.specs.Answering.{ChecksAs}
use Rattle.tree_checker.specs.Texts.{ChecksText, Judges, refused_as, told_as}

judged_told : (f : Form) (n : ℕ) (bytes : List ℕ) (r : Result Checked CheckFault) → Judges f n bytes r → ChecksText f n bytes (told_as r)
judged_told f n bytes (Ok k) j = j
judged_told f n bytes (Err (fault.Node m)) j = j
judged_told f n bytes (Err (fault.Range m p)) j = j
judged_told f n bytes (Err (fault.Cost m)) j = j
judged_told f n bytes (Err fault.Memory) j = tt

-- what is checked is the proof that the file holds
pub held_checked : (f : Form) (n : ℕ) (charges amount : ℕ) (ps : List ElimLog) (walk : Walk) (rest : List ℕ) (r : Result Checked CheckFault) (t : Result Checked TextFault) → amount ≡ charges → t ≡ told_as r
    → ((x : Proof) (c : Conclusion) → IsShapedNode Shallow 1 x → Coming ps walk rest (lines x ++ w.End c ∷ []) → ChecksAs f n x c amount r) → (bytes : List ℕ) → HoldsAll (body bytes) charges ps walk rest → ChecksText f n bytes t
held_checked f n charges amount ps walk rest r t same is checks bytes h =
    subst (ChecksText f n bytes) (sym is)
    (judged_told f n bytes r (charges, h.0, h.1, h.2, subst (λ k. ChecksAs f n h.0 h.1 k r) same (checks h.0 h.1 (h.2).shaped.root h.3)))

-- a file that holds none is refused
pub file_refused : (f : Form) (n : ℕ) (bytes : List ℕ) (refusal : ProofRefusal) (e : TextFault) → e ≡ refused_as refusal → RefusesProofFile bytes refusal → ChecksText f n bytes (Err e)
file_refused f n bytes (refusal.Syntax at) e is h = subst (λ z. ChecksText f n bytes (Err z)) (sym is) h
file_refused f n bytes (refusal.Deep at) e is h = subst (λ z. ChecksText f n bytes (Err z)) (sym is) h
file_refused f n bytes refusal.Memory e is h = subst (λ z. ChecksText f n bytes (Err z)) (sym is) tt

-- the charges of a proof that a text holds
pub held_charges : (text : List ℕ) (charges : ℕ) (ps : List ElimLog) (walk : Walk) (rest : List ℕ) → HoldsAll text charges ps walk rest → charges ≤ 1000000000
held_charges text charges ps walk rest h = (h.2).shaped.charges.1
