use Rattle.std.proofs.Common.{◌≡◌, suc, ◌+◌, List, map, take, length}
use Rattle.smt_names.specs.Body.{shape, shapes_of}
use Rattle.smt_sizes.specs.Linear.{kinds}
use Rattle.smt_sizes.specs.Shapes.{AreForms, shape_weighed, bound_weighed, weighing_of}
use Rattle.smt_sizes.specs.Weights.{Weighed}
use Rattle.smt_sizes.proofs.Parts.{parts, all_parts, total_parts}
use Rattle.smt_sizes.proofs.kinds.+kind.Given as goal

abbrev pub decreases-kind : goal.decreases-kind
decreases-kind l = total_parts l.defined.now.bodies.now + parts (shape l.body.now)

abbrev pub decreases-all_kinds : goal.decreases-all_kinds
decreases-all_kinds l = total_parts l.defined.now.bodies.now + all_parts (shapes_of l.bodies.now)

abbrev pub decreases-kind_call : goal.decreases-kind_call
decreases-kind_call l = total_parts l.defined.now.bodies.now

abbrev pub decreases-kind_let : goal.decreases-kind_let
decreases-kind_let l = total_parts l.defined.now.bodies.now + suc (all_parts (shapes_of l.bodies.now) + parts (shape l.inner.now))

abbrev pub invariant-all_kinds-loop-body : goal.invariant-all_kinds-loop-body
invariant-all_kinds-loop-body l = (l.scope.items ≡ l.initial.scope.items)
    × (AreForms l.defined.forms.now l.defined.bodies.now → (ws : List Weighed) → l.scope.items ≡ kinds ws → l.out.items ≡ map (λ b. (shape_weighed (weighing_of l.defined.bodies.now) ws (shape b)).is_formula) (take l.body-index l.bodies))

abbrev pub invariant-kind_let-loop-body : goal.invariant-kind_let-loop-body
invariant-kind_let-loop-body l = (l.count ≡ length l.initial.scope.items) × (take l.count l.scope.items ≡ l.initial.scope.items)
    × (AreForms l.defined.forms.now l.defined.bodies.now → (ws : List Weighed) → l.initial.scope.items ≡ kinds ws → l.scope.items ≡ kinds (bound_weighed (weighing_of l.defined.bodies.now) ws (shapes_of (take l.body-index l.bodies))))
