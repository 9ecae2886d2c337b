-- The value of decimal digits.
use Rattle.std.specs.Prelude.{ℕ, ◌+◌, ◌-◌, ◌*◌, List, [], ◌∷◌}

-- n with these decimal digits after it
abbrev pub with_digits : ℕ → List ℕ → ℕ
with_digits n [] = n
with_digits n (d ∷ ds) = with_digits (10 * n + (d - 48)) ds

-- the value of decimal digits
abbrev pub decimal_value : List ℕ → ℕ
decimal_value = with_digits 0
