-- The proof that a tree of the code is.
use Rattle.std.specs.Prelude.{List, map}
use Rattle.proof_tree.specs.declared.node.Node.{Node}
use Rattle.proof_tree.specs.declared.node.Node.TheOpen.{Node-F}
use Rattle.proof_tree.specs.declared.node.Node.TheFolds.{fold-Node}
use Rattle.proof_tree.specs.Proof.{Proof, node, proofs}

abbrev pub proof_step : Node-F Proof → Proof
proof_step x = node x.rule (proofs x.children) x.log.entries x.gives

abbrev pub proof_of : Node → Proof
proof_of = fold-Node Proof proof_step
