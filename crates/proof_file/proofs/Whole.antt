-- The tree that the lines of a file say is the one that the file holds.
use Rattle.std.proofs.Common.{ℕ, ◌≡◌, List, [], ◌∷◌, sym, subst}
use Rattle.base_budget.specs.declared.log.ElimLog.{ElimLog}
use Rattle.proof_tree.specs.declared.node.Conclusion.{Conclusion}
use Rattle.proof_tree.specs.declared.node.Node.{Node}
use Rattle.proof_tree.specs.Views.{proof_of}
use Rattle.proof_grammar.specs.declared.lines.TextLine.{TextLine}
use Rattle.proof_grammar.specs.declared.lines.TextLine.TheVariants as w
use Rattle.proof_grammar.specs.declared.walk.Walk.{Walk}
use Rattle.proof_grammar.specs.Shaped.{IsTextOfProof}
use Rattle.proof_file.specs.Coming.{Coming, HoldsAll}
use Rattle.proof_file.specs.Trees.{IsReadTree}

pub holds_tree : (text : List ℕ) (charges amount : ℕ) (ps : List ElimLog) (walk : Walk) (rest : List ℕ) (after : List TextLine → Type 0) (n : Node) (end : Conclusion) → amount ≡ charges → HoldsAll text charges ps walk rest → IsReadTree (Coming ps walk rest) after 1 n
    → ((c : Conclusion) (ls : List TextLine) → after (w.End c ∷ ls) → end ≡ c) → IsTextOfProof text amount (proof_of n) end
holds_tree text charges amount ps walk rest after n end e h t q =
    let x = h.0 in let c = h.1 in
    let k = t x (w.End c ∷ []) h.2.shaped.root h.3 in
    let same : end ≡ c = q c [] k.1 in
    subst (λ z. IsTextOfProof text z (proof_of n) end) (sym e) (subst (λ z. IsTextOfProof text charges z end) (sym k.0) (subst (λ z. IsTextOfProof text charges x z) (sym same) h.2))
