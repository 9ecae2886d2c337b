-- Lists of integers.
use Rattle.std.specs.Prelude.{ℤ, pos, ◌+ℤ◌, List, [], ◌∷◌}

-- the sum of the integers
abbrev pub sum_of : List ℤ → ℤ
sum_of [] = pos 0
sum_of (v ∷ e) = v +ℤ sum_of e
