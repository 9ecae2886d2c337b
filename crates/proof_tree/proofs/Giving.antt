-- Each node that gives its constraint covers its sequent.
use Rattle.std.proofs.Common.{◌≡◌, ℕ, suc, ℤ, Bool, true, List, [], ◌∷◌, length, Option, None, Some, refl, ap}
use Rattle.std.specs.List.{slice_get, AllByRecursion}
use Rattle.form_typed.specs.Truth.{Meaning}
use Rattle.base_budget.specs.declared.log.Entry.{Entry}
use Rattle.clause_set.specs.declared.literal.Literal.{Literal}
use Rattle.clause_set.specs.Kept.{AreFormed}
use Rattle.clause_set.specs.Literals.{dnf_truth}
use Rattle.sequent.specs.declared.member.Pick.{Pick}
use Rattle.sequent.specs.Covers.{Covers, AreCovered}
use Rattle.sequent.specs.Rules.{place, premises_at, premises_by}
use Rattle.sequent.specs.Sequent.{Member, Sequent, IsFormedSequent}
use Rattle.sequent.proofs.Covering.{row_covers}
use Rattle.sequent.proofs.Forming.{premises_formed}
use Rattle.pred_unify.proofs.Clashes.{closing_true}
use Rattle.proof_tree.specs.Gives.{AreGiven, Gives, truths}
use Rattle.proof_tree.specs.Proof.{Proof, Proofs, node, no_proof, and_proof, given, all_given}
use Rattle.proof_tree.specs.Reduced.{IsReducedSequent}
use Rattle.proof_tree.specs.Rules.{constraint_by}
use Rattle.proof_tree.specs.Says.{IsConstraint, TruthAt, TruthBy}
use Rattle.proof_tree.proofs.Premises.{reduced_by}
use Rattle.proof_tree.proofs.Yielding.{rule_yields}
use Rattle.elim_laws.proofs.Wholes.{whole_yields}

formed_at : (s : Sequent) (i : ℕ) (o : Option Member) → IsFormedSequent s → slice_get s.members i ≡ o → AllByRecursion IsFormedSequent (premises_at s i o)
formed_at s i None formed is = tt
formed_at s i (Some m) formed is = premises_formed s i m formed is

pub formed_by : (s : Sequent) (o : Option ℕ) → IsFormedSequent s → AllByRecursion IsFormedSequent (premises_by s o)
formed_by s None formed = tt
formed_by s (Some i) formed = formed_at s i (slice_get s.members i) formed refl

pub given_length : (ss : List Sequent) (ns : Proofs) → AreGiven ss ns → length (all_given ns) ≡ length ss
given_length [] no_proof g = refl
given_length [] (and_proof n ns) g = absurd g
given_length (s ∷ ss) no_proof g = absurd g
given_length (s ∷ ss) (and_proof n ns) g = ap suc (given_length ss ns g.1)

mutual
  -- the constraints of a proof are in form
  pub node_formed : (s : Sequent) (n : Proof) → IsReducedSequent s → Gives s n → AreFormed (given n)
  node_formed s (node p ns log d) r g =
      (whole_yields (constraint_by s p (all_given ns)) (IsConstraint s (place p) (truths (all_given ns)))
      (rule_yields s p (all_given ns) r g.0 (nodes_formed (premises_by s (place p)) ns (reduced_by s (place p) r) g.1) (given_length (premises_by s (place p)) ns g.1)) log d g.2).formed

  pub nodes_formed : (ss : List Sequent) (ns : Proofs) → AllByRecursion IsReducedSequent ss → AreGiven ss ns → AllByRecursion AreFormed (all_given ns)
  nodes_formed [] no_proof r g = tt
  nodes_formed [] (and_proof n ns) r g = absurd g
  nodes_formed (s ∷ ss) no_proof r g = absurd g
  nodes_formed (s ∷ ss) (and_proof n ns) r g = (node_formed s n r.0 g.0, nodes_formed ss ns r.1 g.1)

-- and say what their rules want
pub constraint_is : (s : Sequent) (p : Pick) (ns : Proofs) (log : List Entry) (d : List (List Literal)) → IsReducedSequent s → Gives s (node p ns log d)
    → IsConstraint s (place p) (truths (all_given ns)) d
constraint_is s p ns log d r g =
    whole_yields (constraint_by s p (all_given ns)) (IsConstraint s (place p) (truths (all_given ns)))
    (rule_yields s p (all_given ns) r g.0 (nodes_formed (premises_by s (place p)) ns (reduced_by s (place p) r) g.1) (given_length (premises_by s (place p)) ns g.1)) log d g.2

covers_at : (w : Meaning) (s : Sequent) (i : ℕ) (o : Option Member) (ds : List (List ℤ → Bool)) (d : List ℤ → Bool) → IsFormedSequent s → slice_get s.members i ≡ o
    → AreCovered w (premises_at s i o) ds → ((e : List ℤ) → length e ≡ s.count → d e ≡ true → TruthAt o ds e) → Covers w d s
covers_at w s i None ds d formed is c says = λ e len t. absurd (says e len t)
covers_at w s i (Some m) ds d formed is c says = λ e len t. row_covers w s i m ds formed is c e len (says e len t)

covers_by : (w : Meaning) (s : Sequent) (o : Option ℕ) (ds : List (List ℤ → Bool)) (d : List ℤ → Bool) → IsFormedSequent s
    → AreCovered w (premises_by s o) ds → ((e : List ℤ) → length e ≡ s.count → d e ≡ true → TruthBy s o ds e) → Covers w d s
covers_by w s None ds d formed c says = λ e len t. closing_true w s e formed len (says e len t w)
covers_by w s (Some i) ds d formed c says = covers_at w s i (slice_get s.members i) ds d formed refl c says

mutual
  pub node_covers : (w : Meaning) (s : Sequent) (n : Proof) → IsFormedSequent s → IsReducedSequent s → Gives s n → Covers w (dnf_truth (given n)) s
  node_covers w s (node p ns log d) formed r g =
      covers_by w s (place p) (truths (all_given ns)) (dnf_truth d) formed (nodes_cover w (premises_by s (place p)) ns (formed_by s (place p) formed) (reduced_by s (place p) r) g.1)
      (constraint_is s p ns log d r g).yes

  pub nodes_cover : (w : Meaning) (ss : List Sequent) (ns : Proofs) → AllByRecursion IsFormedSequent ss → AllByRecursion IsReducedSequent ss → AreGiven ss ns → AreCovered w ss (truths (all_given ns))
  nodes_cover w [] no_proof formed r g = tt
  nodes_cover w [] (and_proof n ns) formed r g = absurd g
  nodes_cover w (s ∷ ss) no_proof formed r g = absurd g
  nodes_cover w (s ∷ ss) (and_proof n ns) formed r g = (node_covers w s n formed.0 r.0 g.0, nodes_cover w ss ns formed.1 r.1 g.1)
