-- How many levels a tree has.
use Rattle.std.specs.Prelude.{ℕ, zero, suc}
use Rattle.proof_tree.specs.Proof.{Proof, Proofs, node, no_proof, and_proof}

-- at most this many
abbrev mutual
  pub IsWithinLevels : ℕ → Proof → Type 0
  IsWithinLevels zero x = ⊥
  IsWithinLevels (suc k) (node p ns log d) = AreWithinLevels k ns

  pub AreWithinLevels : ℕ → Proofs → Type 0
  AreWithinLevels k no_proof = Unit {0}
  AreWithinLevels k (and_proof x xs) = IsWithinLevels k x × AreWithinLevels k xs
