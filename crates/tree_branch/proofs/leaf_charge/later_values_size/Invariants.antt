use Rattle.std.proofs.Common.{◌≡◌, ◌+◌, ◌<◌, ◌^◌, drop}
use Rattle.base_budget.specs.Trace.{capped}
use Rattle.sequent.specs.Views.{members_of}
use Rattle.pred_unify.specs.Reading.{behind}
use Rattle.tree_branch.specs.Pairing as pairing
use Rattle.tree_branch.specs.Pairing.{sum_of}
use Rattle.tree_branch.proofs.leaf_charge.later_values_size.Given as goal

abbrev pub invariant-loop-i : goal.invariant-loop-i
invariant-loop-i l = (l.sum < 2 ^ 64) × (capped (l.sum + pairing.function_pairs_size (members_of (behind (drop l.i l.members)))) ≡ capped (pairing.function_pairs_size (members_of (behind l.members))))
