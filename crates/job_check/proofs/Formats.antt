-- The first words of a proof's file say whether it is a proof tree or a clause proof.
use Rattle.std.proofs.Common.{◌≡◌, ◌∙◌, ℕ, ℤ, true, false, List, sym}
use Rattle.formula.specs.Form.{Form}
use Rattle.proof_tree.specs.declared.node.Conclusion.{Conclusion}
use Rattle.proof_tree.specs.Proof.{Proof}
use Rattle.proof_grammar.specs.Shaped.{IsTextOfProof}
use Rattle.proof_file.specs.Body.{body}
use Rattle.clause_file.specs.Answers.{is_clause_text}
use Rattle.clause_file.specs.Verdicts.{HoldsClauseProof}
use Rattle.clause_file.proofs.Formats.{clause_format, other_format}

-- the text of a proof tree does not begin as a clause proof does
pub no_tree : (proof : List ℕ) (charges : ℕ) (x : Proof) (c : Conclusion) → IsTextOfProof (body proof) charges x c → is_clause_text proof ≡ true → ⊥
no_tree proof charges x c h is = let bad = sym is ∙ other_format proof charges x c h in cc

-- a clause proof does
pub no_clauses : (f : Form) (n : ℕ) (proof : List ℕ) (vs : List ℤ) → HoldsClauseProof f n proof vs → is_clause_text proof ≡ false → ⊥
no_clauses f n proof vs h other = let bad = sym (clause_format f n proof vs h) ∙ other in cc
