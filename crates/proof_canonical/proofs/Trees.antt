-- The canonical trees: they have few levels, and the literals of their constraints are normal forms.
use Rattle.std.proofs.Common.{◌≡◌, ℕ, suc, zero, ◌+◌, List, [], ◌∷◌, ◌++◌, map, sym, ◌∙◌, subst, Option, Some, None}
use Rattle.std.specs.List.{AllByRecursion}
use Rattle.base_budget.specs.Trace.{Traced, just, next}
use Rattle.elim_laws.specs.Logs.{entries_of}
use Rattle.sequent.specs.Rules.{picked, place, premises_of}
use Rattle.sequent.specs.Sequent.{Sequent}
use Rattle.proof_tree.specs.Proof.{Proof, Proofs, node, no_proof, and_proof, given, proofs}
use Rattle.proof_tree.specs.Reduced.{IsReducedSequent}
use Rattle.proof_tree.specs.Walk.{nodes_in}
use Rattle.proof_tree.proofs.Premises.{reduced_by}
use Rattle.proof_tree.proofs.Walking.{some_then, value-on_some}
use Rattle.search.specs.Building.{all_built, built, canonical_constraint}
use Rattle.search.proofs.Retracing.{value-built}
use Rattle.proof_canonical.proofs.Sharp.{AreNormal, constraint_normal}

abbrev mutual
  -- at most this many levels, and constraints of normal forms
  pub IsCanonical : ℕ → Proof → Type 0
  IsCanonical zero (node p ns es d) = ⊥
  IsCanonical (suc left) (node p ns es d) = AreNormal d × AreCanonical left ns

  pub AreCanonical : ℕ → Proofs → Type 0
  AreCanonical left no_proof = Unit {0}
  AreCanonical left (and_proof x ns) = IsCanonical left x × AreCanonical left ns

given_normal : (left : ℕ) (x : Proof) → IsCanonical left x → AreNormal (given x)
given_normal zero (node p ns es d) h = absurd h
given_normal (suc left) (node p ns es d) h = h.0

all_given_normal : (left : ℕ) (xs : List Proof) → AreCanonical left (proofs xs) → AllByRecursion AreNormal (map given xs)
all_given_normal left [] h = tt
all_given_normal left (x ∷ xs) h = (given_normal left x h.0, all_given_normal left xs h.1)

one_more : (left : ℕ) (xs : List Proof) (x : Proof) → AreCanonical left (proofs xs) → IsCanonical left x → AreCanonical left (proofs (xs ++ x ∷ []))
one_more left [] x a h = (h, tt)
one_more left (y ∷ xs) x a h = (a.0, one_more left xs x a.1 h)

built_all : (left : ℕ) (f : ℕ → Sequent → Traced (Option Proof)) → ((n : ℕ) (s : Sequent) (x : Proof) → IsReducedSequent s → (f n s).value ≡ Some x → IsCanonical left x)
    → (ss : List Sequent) (n : ℕ) (out all : List Proof) → AllByRecursion IsReducedSequent ss → AreCanonical left (proofs out) → (all_built f n ss out).value ≡ Some all → AreCanonical left (proofs all)
unfolding next just
built_all left f law [] n out all r a e = let y : out ≡ all = (let z : Some out ≡ Some all = e in cc) in subst (λ (xs : List Proof). AreCanonical left (proofs xs)) y a
built_all left f law (s ∷ ss) n out all r a e =
    let g = some_then (f n s).value _ all (sym (value-on_some _ (f n s).value) ∙ e) in
    built_all left f law ss (n + nodes_in g.0) (out ++ g.0 ∷ []) all r.1 (one_more left out g.0 a (law n s g.0 r.0 g.1)) g.2

pub built_canonical : (limit left n : ℕ) (s : Sequent) (x : Proof) → IsReducedSequent s → (built limit left n s).value ≡ Some x → IsCanonical left x
unfolding built just
built_canonical limit zero n s x r e = absurd (let z : None ≡ Some x = e in cc)
built_canonical limit (suc left) n s x r e =
    let p = picked limit s.members in
    let f = built limit left in
    let g = some_then (all_built f (n + 1) (premises_of s p) []).value _ x (sym (value-built f n s p) ∙ e) in
    let a = built_all left f (built_canonical limit left) (premises_of s p) (n + 1) [] g.0 (reduced_by s (place p) r) tt g.1 in
    let ds = map given g.0 in
    let is : node p (proofs g.0) (entries_of (canonical_constraint s p ds).events) (canonical_constraint s p ds).value ≡ x =
    (let z : Some (node p (proofs g.0) (entries_of (canonical_constraint s p ds).events) (canonical_constraint s p ds).value) ≡ Some x = g.2 in cc) in
    subst (IsCanonical (suc left)) is (constraint_normal s p ds r (all_given_normal left g.0 a), a)
