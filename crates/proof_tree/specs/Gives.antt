-- Which trees give their constraints.
use Rattle.std.specs.Prelude.{◌≡◌, ℤ, Bool, true, List, [], ◌∷◌, map, Some}
use Rattle.clause_set.specs.declared.literal.Literal.{Literal}
use Rattle.clause_set.specs.Literals.{dnf_truth}
use Rattle.sequent.specs.Sequent.{Sequent}
use Rattle.sequent.specs.Rules.{applies, premises_of}
use Rattle.elim_laws.specs.Logs.{by_whole_log}
use Rattle.proof_tree.specs.Proof.{Proof, Proofs, node, no_proof, and_proof, all_given}
use Rattle.proof_tree.specs.Rules.{constraint_by}

abbrev mutual
  -- the rule applies to the sequent, the children give the constraints of its premises, and its own is what the whole log
  -- makes of these
  pub Gives : Sequent → Proof → Type 0
  Gives s (node p ns log d) = (applies s p ≡ true) × AreGiven (premises_of s p) ns × ((by_whole_log (constraint_by s p (all_given ns)) log).value ≡ Some d)

  pub AreGiven : List Sequent → Proofs → Type 0
  AreGiven [] no_proof = Unit {0}
  AreGiven [] (and_proof n ns) = ⊥
  AreGiven (s ∷ ss) no_proof = ⊥
  AreGiven (s ∷ ss) (and_proof n ns) = Gives s n × AreGiven ss ns

-- the constraints as tests of integers
abbrev pub truths : List (List (List Literal)) → List (List ℤ → Bool)
truths ds = map dnf_truth ds
