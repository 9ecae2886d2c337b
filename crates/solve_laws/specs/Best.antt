-- Which list of integers is the best of those that satisfy a condition.
use Rattle.std.specs.Prelude.{◌≡◌, ℕ, ◌+◌, ◌*◌, ◌<◌, ◌<ℤ◌, ◌⊎◌, ℤ, pos, negsuc, Bool, true, List, length, take, unsigned_abs}
use Rattle.base_integers.specs.Entry.{entry}

-- u has a smaller absolute value than v, or the same one, and is the positive one of the two
abbrev pub IsNearer : ℤ → ℤ → Type 0
IsNearer u v = (unsigned_abs u < unsigned_abs v) ⊎ ((unsigned_abs u ≡ unsigned_abs v) × (pos 0 <ℤ u) × (v <ℤ pos 0))

-- v is the best of the lists of n integers that satisfy p: name by name, no list that satisfies p and agrees with v
-- before has an entry there that is nearer to 0 than that of v
pub record IsBest (p : List ℤ → Bool) (n : ℕ) (v : List ℤ) : Type 0 where
  pub names : length v ≡ n
  pub satisfies : p v ≡ true
  pub best : (w : List ℤ) → length w ≡ n → p w ≡ true → (j : ℕ) → j < n → take j w ≡ take j v → ¬ (IsNearer (entry w j) (entry v j))

-- the place of v among 0, 1, −1, 2, −2, ..
abbrev pub rank : ℤ → ℕ
rank (pos n) = 2 * n
rank (negsuc n) = 2 * n + 3
