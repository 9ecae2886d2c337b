use Rattle.std.proofs.Common.{◌≡◌, ◌+◌, ◌<◌, ◌^◌, drop}
use Rattle.formula.specs.Tree.{form}
use Rattle.base_budget.specs.Trace.{capped}
use Rattle.sequent.specs.Views.{members_of}
use Rattle.pred_unify.specs.Reading.{behind}
use Rattle.tree_branch.specs.Pairing as pairing
use Rattle.tree_branch.specs.Pairing.{sum_of}
use Rattle.tree_branch.proofs.leaf_charge.all_predicates_size.Given as goal

abbrev pub invariant-loop-x : goal.invariant-loop-x
invariant-loop-x l =
    (l.sum < 2 ^ 64)
    × (capped (l.sum + sum_of (λ x. pairing.with_predicates_size (members_of (behind (drop x.first l.holding))) (form x.failing.now.formula)) (drop l.x-index l.met)) ≡ capped (sum_of (λ x. pairing.with_predicates_size (members_of (behind (drop x.first l.holding))) (form x.failing.now.formula)) l.met))
