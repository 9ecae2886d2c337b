-- Which trees are saturated.
use Rattle.std.specs.Prelude.{◌≡◌, true, List, [], ◌∷◌}
use Rattle.std.specs.List.{AllByRecursion}
use Rattle.sequent.specs.declared.member.Pick.{Pick}
use Rattle.sequent.specs.declared.member.Pick.TheVariants as pick
use Rattle.sequent.specs.Leaf.{is_leaf}
use Rattle.sequent.specs.Sequent.{Sequent}
use Rattle.sequent.specs.Rules.{premises_of}
use Rattle.proof_tree.specs.Proof.{Proof, Proofs, node, no_proof, and_proof}

-- where the leaf is closed, no rule but trivial could be taken any more
abbrev pub IsSaturatedLeaf : Sequent → Pick → Type 0
IsSaturatedLeaf s pick.Close = AllByRecursion (λ m. is_leaf m.formula ≡ true) s.members
IsSaturatedLeaf s _ = Unit {0}

abbrev mutual
  -- each leaf that is closed is saturated
  pub IsSaturated : Sequent → Proof → Type 0
  IsSaturated s (node p ns log d) = IsSaturatedLeaf s p × AreSaturated (premises_of s p) ns

  pub AreSaturated : List Sequent → Proofs → Type 0
  AreSaturated [] ns = Unit {0}
  AreSaturated (s ∷ ss) no_proof = Unit {0}
  AreSaturated (s ∷ ss) (and_proof n ns) = IsSaturated s n × AreSaturated ss ns
