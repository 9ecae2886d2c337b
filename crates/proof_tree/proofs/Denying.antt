-- A tree whose leaves are saturated is tight for its sequent.
use Rattle.std.proofs.Common.{◌≡◌, ℕ, ℤ, Bool, true, false, List, [], ◌∷◌, length, Option, None, Some, refl}
use Rattle.std.specs.List.{slice_get, AllByRecursion}
use Rattle.clause_set.specs.Literals.{dnf_truth}
use Rattle.sequent.specs.declared.member.Pick.{Pick}
use Rattle.sequent.specs.declared.member.Pick.TheVariants as pick
use Rattle.sequent.specs.Covers.{IsTight, AreTight}
use Rattle.sequent.specs.Rules.{place, premises_at, premises_by}
use Rattle.sequent.specs.Sequent.{Member, Sequent, IsFormedSequent}
use Rattle.sequent.proofs.Covering.{row_tight}
use Rattle.pred_unify.specs.Leaf.{table_of}
use Rattle.pred_unify.proofs.Leaves.{leaf_tight}
use Rattle.proof_tree.specs.Gives.{AreGiven, Gives, truths}
use Rattle.proof_tree.specs.Proof.{Proof, Proofs, node, no_proof, and_proof, given, all_given}
use Rattle.proof_tree.specs.Reduced.{IsReducedSequent}
use Rattle.proof_tree.specs.Says.{FalsityAt, FalsityBy}
use Rattle.proof_tree.specs.Tight.{AreSaturated, IsSaturated, IsSaturatedLeaf}
use Rattle.proof_tree.proofs.Giving.{constraint_is, formed_by}
use Rattle.proof_tree.proofs.Premises.{reduced_by}

tight_at : (s : Sequent) (i : ℕ) (o : Option Member) (ds : List (List ℤ → Bool)) (d : List ℤ → Bool) → IsFormedSequent s → slice_get s.members i ≡ o
    → AreTight (premises_at s i o) ds → ((e : List ℤ) → length e ≡ s.count → d e ≡ false → FalsityAt o ds e) → IsTight d s
tight_at s i None ds d formed is c says = λ e len t. absurd (says e len t)
tight_at s i (Some m) ds d formed is c says = λ e len t. row_tight s i m ds formed is c e len (says e len t)

tight_by : (s : Sequent) (p : Pick) (ds : List (List ℤ → Bool)) (d : List ℤ → Bool) → IsFormedSequent s → IsSaturatedLeaf s p
    → AreTight (premises_by s (place p)) ds → ((e : List ℤ) → length e ≡ s.count → d e ≡ false → FalsityBy s (place p) ds e) → IsTight d s
tight_by s pick.Close ds d formed leaf c says = λ e len t. (table_of s.members e, leaf_tight s e formed len leaf (says e len t (table_of s.members e)))
tight_by s (pick.Trivial i) ds d formed leaf c says = tight_at s i (slice_get s.members i) ds d formed refl c says
tight_by s (pick.Alpha i) ds d formed leaf c says = tight_at s i (slice_get s.members i) ds d formed refl c says
tight_by s (pick.Delta i) ds d formed leaf c says = tight_at s i (slice_get s.members i) ds d formed refl c says
tight_by s (pick.Beta i) ds d formed leaf c says = tight_at s i (slice_get s.members i) ds d formed refl c says
tight_by s (pick.Gamma i) ds d formed leaf c says = tight_at s i (slice_get s.members i) ds d formed refl c says

mutual
  pub node_tight : (s : Sequent) (n : Proof) → IsFormedSequent s → IsReducedSequent s → Gives s n → IsSaturated s n → IsTight (dnf_truth (given n)) s
  node_tight s (node p ns log d) formed r g k =
      tight_by s p (truths (all_given ns)) (dnf_truth d) formed k.0 (nodes_tight (premises_by s (place p)) ns (formed_by s (place p) formed) (reduced_by s (place p) r) g.1 k.1)
      (constraint_is s p ns log d r g).no

  pub nodes_tight : (ss : List Sequent) (ns : Proofs) → AllByRecursion IsFormedSequent ss → AllByRecursion IsReducedSequent ss → AreGiven ss ns → AreSaturated ss ns → AreTight ss (truths (all_given ns))
  nodes_tight [] no_proof formed r g k = tt
  nodes_tight [] (and_proof n ns) formed r g k = absurd g
  nodes_tight (s ∷ ss) no_proof formed r g k = absurd g
  nodes_tight (s ∷ ss) (and_proof n ns) formed r g k = (node_tight s n formed.0 r.0 g.0 k.0, nodes_tight ss ns formed.1 r.1 g.1 k.1)
