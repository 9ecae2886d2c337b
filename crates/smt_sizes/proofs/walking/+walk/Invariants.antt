use Rattle.std.proofs.Common.{◌≡◌, ◌+◌, ◌-◌, ◌≤◌, List, length, take, drop}
use Rattle.smt_names.specs.Body.{shape, shapes_of}
use Rattle.smt_sizes.specs.Weight.{plus, times}
use Rattle.smt_sizes.specs.Linear.{kinds, weights, sum, value, combined}
use Rattle.smt_sizes.specs.Shapes.{AreForms, shapes_weighed, bound_weighed, weighing_of}
use Rattle.smt_sizes.specs.Weights.{Weighed}
use Rattle.smt_sizes.proofs.Parts.{parts, all_parts, total_parts}
use Rattle.smt_sizes.proofs.walking.+walk.Given as goal

abbrev pub decreases-walk : goal.decreases-walk
decreases-walk l = total_parts l.defined.now.bodies.now + parts (shape l.body.now)

abbrev pub decreases-walk_each : goal.decreases-walk_each
decreases-walk_each l = total_parts l.defined.now.bodies.now + all_parts (shapes_of l.bodies.now)

abbrev pub decreases-walk_applied : goal.decreases-walk_applied
decreases-walk_applied l = total_parts l.defined.now.bodies.now + (1 + all_parts (shapes_of l.bodies.now))

abbrev pub decreases-walk_call : goal.decreases-walk_call
decreases-walk_call l = total_parts l.defined.now.bodies.now + (1 + all_parts (shapes_of l.bodies.now))

abbrev pub decreases-walk_let : goal.decreases-walk_let
decreases-walk_let l = total_parts l.defined.now.bodies.now + (1 + (all_parts (shapes_of l.bodies.now) + parts (shape l.inner.now)))

abbrev pub decreases-close_names : goal.decreases-close_names
decreases-close_names l = total_parts l.defined.now.bodies.now + all_parts (shapes_of l.bodies.now)

abbrev pub decreases-walk_quantified : goal.decreases-walk_quantified
decreases-walk_quantified l = total_parts l.defined.now.bodies.now + (2 + (l.count + l.count + parts (shape l.inner.now)))

abbrev pub invariant-walk_each-loop-i : goal.invariant-walk_each-loop-i
invariant-walk_each-loop-i l = (l.scope.items ≡ l.initial.scope.items) × (AreForms l.defined.forms.now l.defined.bodies.now → length l.out.uses.items ≡ length l.fn.all.uses.items)
    × (AreForms l.defined.forms.now l.defined.bodies.now → (ws : List Weighed) → l.initial.scope.items ≡ kinds ws → length l.fn.all.uses.items ≡ length ws
    → plus (value (sum l.out) (weights ws)) (times l.weight (combined (drop l.i l.factors.uses.items) (weights (shapes_weighed (weighing_of l.defined.bodies.now) ws (shapes_of (drop l.i l.bodies))))))
    ≡ plus (value (sum l.fn.all) (weights ws)) (times l.weight (value (sum l.factors) (weights (shapes_weighed (weighing_of l.defined.bodies.now) ws (shapes_of l.bodies))))))

abbrev pub invariant-close_names-loop-i : goal.invariant-close_names-loop-i
invariant-close_names-loop-i l = (l.i ≤ length l.bodies) × (l.base ≡ length l.initial.scope.items - length l.bodies) × (l.scope.items ≡ take (l.base + l.i) l.initial.scope.items)
    × (AreForms l.defined.forms.now l.defined.bodies.now → length l.bodies ≤ length l.fn.all.uses.items → length l.out.uses.items + length l.bodies ≡ length l.fn.all.uses.items + l.i)
    × (AreForms l.defined.forms.now l.defined.bodies.now → (ws : List Weighed) → length l.fn.all.uses.items ≡ length ws + length l.bodies
    → l.initial.scope.items ≡ kinds (bound_weighed (weighing_of l.defined.bodies.now) ws (shapes_of l.bodies))
    → value (sum l.out) (weights (bound_weighed (weighing_of l.defined.bodies.now) ws (shapes_of (take l.i l.bodies))))
    ≡ value (sum l.fn.all) (weights (bound_weighed (weighing_of l.defined.bodies.now) ws (shapes_of l.bodies))))

abbrev pub decreases-close_names-loop-i : goal.decreases-close_names-loop-i
decreases-close_names-loop-i l = l.i
