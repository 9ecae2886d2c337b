use Rattle.std.proofs.Common.{◌≡◌, ◌++◌, drop}
use Rattle.std.specs.Prelude.{map}
use Rattle.proof_tree.specs.Proof.{proofs}
use Rattle.proof_tree.specs.Views.{proof_of}
use Rattle.proof_grammar.specs.Lines.{lines_all}
use Rattle.proof_printer.proofs.Nodes.{short_bytes}
use Rattle.proof_printer.proofs.text.+writing.Given as goal

abbrev pub invariant-write_nodes-loop-node : goal.invariant-write_nodes-loop-node
invariant-write_nodes-loop-node l = l.out.items ++ short_bytes l.parts (lines_all (proofs (map proof_of (drop l.node-index l.nodes)))) ≡ l.fn.out.items ++ short_bytes l.parts (lines_all (proofs (map proof_of l.nodes)))
