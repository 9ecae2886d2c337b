-- A node for each proof.
use Rattle.std.proofs.Common.{◌≡◌, List, [], ◌∷◌, map, refl, ◌∙◌, ap}
use Rattle.proof_tree.specs.declared.node.Node.{Node, roll-Node}
use Rattle.proof_tree.specs.declared.node.Node.TheFolds.{fold-roll-Node}
use Rattle.proof_tree.specs.Proof.{Proof, Proofs, node, no_proof, and_proof, proofs}
use Rattle.proof_tree.specs.Views.{proof_of, proof_step}

abbrev mutual
  pub node_of : Proof → Node
  node_of (node p xs es d) = roll-Node (record { rule = p; children = nodes_of xs; log = record { entries = es }; gives = d })

  nodes_of : Proofs → List Node
  nodes_of no_proof = []
  nodes_of (and_proof x xs) = node_of x ∷ nodes_of xs

mutual
  pub of_node : (x : Proof) → proof_of (node_of x) ≡ x
  of_node (node p xs es d) = fold-roll-Node Proof proof_step (record { rule = p; children = nodes_of xs; log = record { entries = es }; gives = d }) ∙ ap (λ (ys : Proofs). node p ys es d) (of_nodes xs)

  of_nodes : (xs : Proofs) → proofs (map proof_of (nodes_of xs)) ≡ xs
  of_nodes no_proof = refl
  of_nodes (and_proof x xs) = λ i. and_proof (of_node x i) (of_nodes xs i)
