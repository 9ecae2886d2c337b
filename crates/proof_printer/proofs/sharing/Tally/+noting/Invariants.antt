use Rattle.proof_printer.proofs.Tallying.{Noting}
use Rattle.proof_printer.proofs.sharing.Tally.+noting.Given as goal

abbrev pub invariant-note_nodes-loop-node : goal.invariant-note_nodes-loop-node
invariant-note_nodes-loop-node l = Noting l.fn.self.seen l.fn.self.again l.nodes l.node-index l.self.seen l.self.again
