-- Lists of integers as assignments: the entry at a name, and the list with one entry changed.
use Rattle.std.specs.Prelude.{ℕ, zero, suc, ℤ, pos, List, [], ◌∷◌}

-- the x-th integer of e, counted from 0; 0 past its end
abbrev pub entry : List ℤ → ℕ → ℤ
entry [] x = pos 0
entry (u ∷ e) zero = u
entry (u ∷ e) (suc x) = entry e x

-- e with v at the place x; where e ends before x, it is filled up with 0
abbrev pub put : List ℤ → ℕ → ℤ → List ℤ
put [] zero v = v ∷ []
put [] (suc x) v = pos 0 ∷ put [] x v
put (u ∷ e) zero v = v ∷ e
put (u ∷ e) (suc x) v = u ∷ put e x v
