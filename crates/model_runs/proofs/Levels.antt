-- A canonical tree has no more levels than its branches may have nodes.
use Rattle.std.proofs.Common.{◌≡◌, ℕ, suc, zero, ◌+◌, List, [], ◌∷◌, ◌++◌, map, sym, ◌∙◌, subst, Option, Some, None}
use Rattle.base_budget.specs.Trace.{Traced, just, next}
use Rattle.elim_laws.specs.Logs.{entries_of}
use Rattle.sequent.specs.Rules.{picked, premises_of}
use Rattle.sequent.specs.Sequent.{Sequent}
use Rattle.proof_tree.specs.Proof.{Proof, node, given, proofs}
use Rattle.proof_tree.specs.Walk.{nodes_in}
use Rattle.proof_tree.proofs.Walking.{some_then, value-on_some}
use Rattle.search.specs.Building.{all_built, built, canonical_constraint}
use Rattle.search.proofs.Retracing.{value-built}
use Rattle.model_trees.specs.Levels.{IsWithinLevels, AreWithinLevels}

one_more : (left : ℕ) (xs : List Proof) (x : Proof) → AreWithinLevels left (proofs xs) → IsWithinLevels left x → AreWithinLevels left (proofs (xs ++ x ∷ []))
one_more left [] x a h = (h, tt)
one_more left (y ∷ xs) x a h = (a.0, one_more left xs x a.1 h)

all_levels : (left : ℕ) (f : ℕ → Sequent → Traced (Option Proof)) → ((n : ℕ) (s : Sequent) (x : Proof) → (f n s).value ≡ Some x → IsWithinLevels left x) → (ss : List Sequent) (n : ℕ) (out all : List Proof) → AreWithinLevels left (proofs out)
    → (all_built f n ss out).value ≡ Some all → AreWithinLevels left (proofs all)
unfolding next just
all_levels left f law [] n out all a e = let y : out ≡ all = (let z : Some out ≡ Some all = e in cc) in subst (λ (xs : List Proof). AreWithinLevels left (proofs xs)) y a
all_levels left f law (s ∷ ss) n out all a e =
    let g = some_then (f n s).value _ all (sym (value-on_some _ (f n s).value) ∙ e) in
    all_levels left f law ss (n + nodes_in g.0) (out ++ g.0 ∷ []) all (one_more left out g.0 a (law n s g.0 g.1)) g.2

pub built_levels : (limit left n : ℕ) (s : Sequent) (x : Proof) → (built limit left n s).value ≡ Some x → IsWithinLevels left x
unfolding built just
built_levels limit zero n s x e = absurd (let z : None ≡ Some x = e in cc)
built_levels limit (suc left) n s x e =
    let p = picked limit s.members in
    let f = built limit left in
    let g = some_then (all_built f (n + 1) (premises_of s p) []).value _ x (sym (value-built f n s p) ∙ e) in
    let ds = map given g.0 in
    let y = node p (proofs g.0) (entries_of (canonical_constraint s p ds).events) (canonical_constraint s p ds).value in
    let is : y ≡ x = (let z : Some y ≡ Some x = g.2 in cc) in
    subst (IsWithinLevels (suc left)) is (all_levels left f (built_levels limit left) (premises_of s p) (n + 1) [] g.0 tt g.1)
