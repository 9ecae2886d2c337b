-- What a walk is ready for at a node.
use Rattle.std.specs.Prelude.{◌≡◌, ℕ, ℤ, List, [], ◌∷◌, length}
use Rattle.std.specs.List.{AllByRecursion}
use Rattle.linear_term.specs.Range.{InRange}
use Rattle.sequent.specs.Sequent.{Sequent}
use Rattle.proof_tree.specs.Gives.{Gives}
use Rattle.proof_tree.specs.Proof.{Proof, Proofs, no_proof, and_proof}
use Rattle.proof_tree.specs.Reduced.{IsReducedSequent}
use Rattle.tree_branch.specs.Within.{IsWithin}
use Rattle.model_trees.specs.Levels.{IsWithinLevels}

-- the walk can be at this node with these values: its tree gives its constraint, has at most this many levels, and the limits of a branch are kept
pub record IsWalkReady (left : ℕ) (s : Sequent) (x : Proof) (v : List ℤ) : Type 0 where
  pub within : IsWithin left s
  pub reduced : IsReducedSequent s
  pub levels : IsWithinLevels left x
  pub gives : Gives s x
  pub values : AllByRecursion InRange v
  pub many : length v ≡ s.count

-- the same of each premise and its tree
abbrev pub AreWalkReady : ℕ → List Sequent → Proofs → List ℤ → Type 0
AreWalkReady left [] no_proof v = Unit {0}
AreWalkReady left [] (and_proof x xs) v = ⊥
AreWalkReady left (s ∷ ss) no_proof v = ⊥
AreWalkReady left (s ∷ ss) (and_proof x xs) v = IsWalkReady left s x v × AreWalkReady left ss xs v
