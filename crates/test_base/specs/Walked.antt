-- What a walk over a list asks.
use Rattle.std.specs.Prelude.{ℕ, Bool, false, true, cond, ◌==◌, List, [], ◌∷◌}
use Rattle.backlist.specs.declared.boxes.Pos.{Pos}

-- some item is x
abbrev pub any_is : ℕ → List (Pos × ℕ) → Bool
any_is x [] = false
any_is x (i ∷ is) = cond (i.1 == x) true (any_is x is)
