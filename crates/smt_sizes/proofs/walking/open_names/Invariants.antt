use Rattle.std.proofs.Common.{◌≡◌, ◌+◌, List, length, take}
use Rattle.smt_names.specs.Body.{shapes_of}
use Rattle.smt_sizes.specs.Linear.{kinds, weights, sum, value}
use Rattle.smt_sizes.specs.Shapes.{AreForms, bound_weighed, weighing_of}
use Rattle.smt_sizes.specs.Weights.{Weighed}
use Rattle.smt_sizes.proofs.walking.open_names.Given as goal

abbrev pub invariant-loop-body : goal.invariant-loop-body
invariant-loop-body l = (take (length l.initial.scope.items) l.scope.items ≡ l.initial.scope.items)
    × (length l.scope.items ≡ length l.initial.scope.items + l.body-index)
    × (AreForms l.defined.forms.now l.defined.bodies.now → (ws : List Weighed) → l.initial.scope.items ≡ kinds ws → l.scope.items ≡ kinds (bound_weighed (weighing_of l.defined.bodies.now) ws (shapes_of (take l.body-index l.bodies))))
    × (length l.out.uses.items ≡ length l.fn.all.uses.items + l.body-index)
    × ((ws : List Weighed) → length l.fn.all.uses.items ≡ length ws
    → value (sum l.out) (weights (bound_weighed (weighing_of l.defined.bodies.now) ws (shapes_of (take l.body-index l.bodies)))) ≡ value (sum l.fn.all) (weights ws))
