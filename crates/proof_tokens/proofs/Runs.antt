-- How long the longest front of bytes is that pass a test.
use Rattle.std.proofs.Common.{ℕ, ◌≡◌, ◌≤◌, true, List, [], ◌∷◌, length, arith}
use Rattle.std.proofs.lemmas.List.Sums.{prefix_len-le-length}
use Rattle.proof_tokens.specs.Scanning.{joins}

pub ruleset runs = prefix_len-le-length

joins_nothing : (w : List ℕ) → joins w [] ≡ true → ⊥
joins_nothing w e = cc

-- what a word joins is there
pub joined : (w rest : List ℕ) → joins w rest ≡ true → 1 ≤ length rest
joined w [] e = absurd (joins_nothing w e)
joined w (b ∷ rest) e = omega arith
