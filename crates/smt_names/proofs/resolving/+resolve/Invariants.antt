use Rattle.std.proofs.Common.{◌≡◌, List, ◌+◌, map, take, length}
use Rattle.smt_terms.specs.Term.{phrase, phrases_of, bindings_of}
use Rattle.smt_terms.specs.Evaluation.{Globals}
use Rattle.smt_terms.specs.Translation.{Standing, said, symbol_said}
use Rattle.smt_names.specs.Body.{shape, shapes_of}
use Rattle.smt_names.specs.Saying.{calls_of, shape_said, leaf_said, bound_said}
use Rattle.smt_names.specs.Scopes.{leaves_at, names_in, AreWithin, AreLeavesWithin}
use Rattle.smt_names.specs.Symbols.{Agrees}
use Rattle.smt_names.proofs.Weights.{weight, weights, binding_weights}
use Rattle.smt_names.proofs.resolving.+resolve.Given as goal

abbrev pub decreases-resolve : goal.decreases-resolve
decreases-resolve l = weight (phrase l.term.now)

abbrev pub decreases-resolve_use : goal.decreases-resolve_use
decreases-resolve_use l = 1 + weights (phrases_of l.arguments.now)

abbrev pub decreases-resolve_all : goal.decreases-resolve_all
decreases-resolve_all l = weights (phrases_of l.terms.now)

abbrev pub decreases-resolve_bindings : goal.decreases-resolve_bindings
decreases-resolve_bindings l = binding_weights (bindings_of l.bindings.now)

abbrev pub decreases-resolve_let : goal.decreases-resolve_let
decreases-resolve_let l = 1 + (binding_weights (bindings_of l.bindings.now) + weight (phrase l.body.now))

abbrev pub decreases-resolve_quantified : goal.decreases-resolve_quantified
decreases-resolve_quantified l = 1 + weight (phrase l.body.now)

abbrev pub invariant-resolve_all-loop-term : goal.invariant-resolve_all-loop-term
invariant-resolve_all-loop-term l = (gs : Globals) (e : List Standing) → Agrees gs l.symbols l.definitions → AreWithin l.count (leaves_at l.scope) → length e ≡ l.count
    → map (λ b. shape_said (calls_of l.definitions) e (shape b)) l.out ≡ map (λ t. said (symbol_said gs) (names_in e (leaves_at l.scope)) (phrase t)) (take l.term-index l.terms)

abbrev pub invariant-resolve_bindings-loop-binding : goal.invariant-resolve_bindings-loop-binding
invariant-resolve_bindings-loop-binding l = (length l.read.leaves.items ≡ l.binding-index) × (l.read.count ≡ l.count + length l.read.kept) × AreLeavesWithin l.read.count l.read.leaves.items
    × ((gs : Globals) (e : List Standing) → Agrees gs l.symbols l.definitions → AreWithin l.count (leaves_at l.scope) → length e ≡ l.count
    → map (leaf_said (bound_said (calls_of l.definitions) e (shapes_of l.read.kept))) l.read.leaves.items
    ≡ map (λ b. said (symbol_said gs) (names_in e (leaves_at l.scope)) (phrase b.term)) (take l.binding-index l.bindings))
