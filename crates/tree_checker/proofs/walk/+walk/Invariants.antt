use Rattle.std.proofs.Common.{◌≡◌, ◌+◌, ◌*◌, ◌++◌, List, length}
use Rattle.tree_branch.specs.Standing.{premises_from}
use Rattle.proof_tree.specs.Proof.{Proofs}
use Rattle.proof_tree.specs.Walk.{width}
use Rattle.proof_grammar.specs.declared.lines.TextLine.{TextLine}
use Rattle.tree_checker.specs.Told.{HaveLevels, told_all}
use Rattle.tree_checker.specs.Walking.{IsPaid}
use Rattle.tree_checker.proofs.Stepped.{Stepping}
use Rattle.tree_checker.proofs.walk.+walk.Given as goal

abbrev pub invariant-premises-loop-i : goal.invariant-premises-loop-i
invariant-premises-loop-i g l =
    (l.branch ≡ l.fn.branch)
    × IsPaid l.course l.purse
    × ((ns : Proofs) (ls : List TextLine) → HaveLevels l.left ns → width ns ≡ length (premises_from l.fn.branch l.principal) → g.L.ProofLines.coming l.fn.lines (told_all ns ++ ls)
    → Stepping (g.L.ProofLines.coming l.lines) l.left ls l.i (premises_from l.fn.branch l.principal) ns l.ds l.purse l.course l.fn.purse l.fn.course)

abbrev pub decreases-node : goal.decreases-node
decreases-node g l = 4 * l.left

abbrev pub decreases-enter : goal.decreases-enter
decreases-enter g l = 4 * l.left + 3

abbrev pub decreases-grow : goal.decreases-grow
decreases-grow g l = 4 * l.left + 2

abbrev pub decreases-premises : goal.decreases-premises
decreases-premises g l = 4 * l.left + 1
