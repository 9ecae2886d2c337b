-- Assertion levels by the numbers of what was in force where they began.
use Rattle.std.specs.Prelude.{ℕ, ◌&&◌, Bool, true, List, [], ◌∷◌, length, nat_le, take}

-- the first ones of these, this many for each number, the innermost level first
abbrev pub taken_at : {A : Type 0} → List A → List ℕ → List (List A)
taken_at es [] = []
taken_at es (m ∷ ms) = take m es ∷ taken_at (take m es) ms

-- no level began with more than the one in it
abbrev pub are_marks : {A : Type 0} → List A → List ℕ → Bool
are_marks es [] = true
are_marks es (m ∷ ms) = nat_le m (length es) && are_marks (take m es) ms
