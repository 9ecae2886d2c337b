-- The canonical tree of a formula is as a text can hold it.
use Rattle.std.proofs.Common.{◌≡◌, ℕ, arith, Some}
use Rattle.formula.specs.Form.{Form}
use Rattle.base_limits.specs.Limits.{branch_limit}
use Rattle.tree_branch.proofs.Keeping.{start_within}
use Rattle.proof_tree.specs.Proof.{Proof}
use Rattle.proof_tree.specs.Proves.{start}
use Rattle.search.specs.Building.{built}
use Rattle.search.proofs.Retracing.{retraced}
use Rattle.proof_grammar.specs.Owed.{Shallow}
use Rattle.proof_grammar.specs.Shaped.{IsShapedNode}
use Rattle.proof_printer.specs.Typed.{IsTypedProof}
use Rattle.formula.specs.Reduced.{HasReducedTerms}
use Rattle.formula.specs.Searchable.{IsSearchable}
use Rattle.proof_canonical.proofs.Shapes.{node_shaped}
use Rattle.proof_canonical.proofs.Trees.{built_canonical}

pub tree_shaped : (f : Form) (n k : ℕ) (x : Proof) → IsSearchable f n → HasReducedTerms f → (built k branch_limit 0 (start f n)).value ≡ Some x → IsTypedProof x
    → IsShapedNode Shallow 1 x
tree_shaped f n k x inside reduced e t =
    node_shaped branch_limit 1 (start f n) x (omega arith) (retraced k branch_limit 0 (start f n) x e).gives (built_canonical k branch_limit 0 (start f n) x (reduced, tt) e) (start_within f n inside.over inside.size inside.depth inside.constants) t
