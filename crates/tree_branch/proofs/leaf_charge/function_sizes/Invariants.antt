use Rattle.std.proofs.Common.{◌≡◌, ◌+◌, ◌<◌, ◌^◌, drop}
use Rattle.base_budget.specs.Trace.{capped}
use Rattle.sequent.specs.Views.{members_of}
use Rattle.pred_unify.specs.Reading.{behind}
use Rattle.tree_branch.specs.Pairing as pairing
use Rattle.tree_branch.specs.Pairing.{sum_of}
use Rattle.tree_branch.proofs.leaf_charge.function_sizes.Given as goal

abbrev pub invariant-loop-m : goal.invariant-loop-m
invariant-loop-m l = (l.sum < 2 ^ 64) × (capped (l.sum + sum_of (λ m. pairing.function_pair_size l.f l.ss m.formula) (members_of (behind (drop l.m-index l.members)))) ≡ capped (sum_of (λ m. pairing.function_pair_size l.f l.ss m.formula) (members_of (behind l.members))))
