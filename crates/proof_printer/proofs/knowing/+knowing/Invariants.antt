use Rattle.proof_printer.proofs.Known.{NodesBefore}
use Rattle.proof_printer.proofs.knowing.+knowing.Given as goal

abbrev pub invariant-know_nodes-loop-node : goal.invariant-know_nodes-loop-node
invariant-know_nodes-loop-node l = NodesBefore l.nodes l.node-index
