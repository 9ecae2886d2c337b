use Rattle.std.proofs.Common.{◌≡◌, ◌+◌, ◌*◌, ◌<◌, ◌^◌, drop, map}
use Rattle.base_budget.proofs.Following.{Going}
use Rattle.sequent.specs.Rules.{premises_of}
use Rattle.sequent.specs.Views.{sequent_of}
use Rattle.countermodel.specs.Doing.{unnoted}
use Rattle.proof_tree.specs.Proof.{proofs}
use Rattle.proof_tree.specs.Views.{proof_of}
use Rattle.model_trees.specs.Walk.{walk_false}
use Rattle.countermodel.proofs.walking.+walk.Given as goal

abbrev pub invariant-fork-loop-i : goal.invariant-fork-loop-i
invariant-fork-loop-i l =
    (l.values ≡ l.fn.values) × (l.purse.budget < 2 ^ 32) × Going unnoted (walk_false l.s.count (drop l.i (premises_of (sequent_of l.s) l.rule)) (proofs (map proof_of (drop l.i l.children))) l.values) l.purse tt
    (walk_false l.s.count (premises_of (sequent_of l.s) l.rule) (proofs (map proof_of l.children)) l.fn.values) l.fn.purse tt

abbrev pub decreases-walk : goal.decreases-walk
decreases-walk l = 3 * l.left

abbrev pub decreases-step : goal.decreases-step
decreases-step l = 3 * l.left + 1

abbrev pub decreases-turn : goal.decreases-turn
decreases-turn l = 3 * l.left + 2

abbrev pub decreases-fork : goal.decreases-fork
decreases-fork l = 3 * l.left + 2
