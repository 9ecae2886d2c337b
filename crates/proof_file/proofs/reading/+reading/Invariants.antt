use Rattle.std.proofs.Common.{◌+◌, ◌-◌, ◌*◌}
use Rattle.proof_file.proofs.Growth.{Going}
use Rattle.proof_file.proofs.reading.+reading.Given as goal

abbrev pub decreases-node : goal.decreases-node
decreases-node g l = 2 * (2002 - l.level)

abbrev pub decreases-nodes : goal.decreases-nodes
decreases-nodes g l = 2 * (2002 - l.level) + 1

abbrev pub invariant-nodes-loop-i : goal.invariant-nodes-loop-i
invariant-nodes-loop-i g l = Going (g.L.ProofLines.coming l.fn.lines) (g.L.ProofLines.coming l.lines) l.count l.level l._i l.trees
