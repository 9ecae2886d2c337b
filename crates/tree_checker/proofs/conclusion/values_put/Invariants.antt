use Rattle.std.proofs.Common.{◌≡◌, ◌+◌, true, length}
use Rattle.std.specs.List.{list_all}
use Rattle.linear_term.specs.Range.{is_in_range}
use Rattle.base_budget.proofs.Charging.{Left}
use Rattle.proof_tree.specs.Proves.{values_put}
use Rattle.tree_checker.proofs.conclusion.values_put.Given as goal

abbrev pub invariant-loop-v : goal.invariant-loop-v
invariant-loop-v l = (list_all is_in_range l.rest ≡ true) × (l.j + length l.rest ≡ length l.fn.vs) × Left (values_put l.j l.rest l.left) (values_put 0 l.fn.vs l.fn.d)

abbrev pub decreases-loop-v : goal.decreases-loop-v
decreases-loop-v l = length l.rest
