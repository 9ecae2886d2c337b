-- Texts put together of others.
use Rattle.std.specs.Prelude.{ℕ, List, [], ◌∷◌, ◌++◌, map, codes}
use Rattle.pri_printer.specs.Text.{behind_each}

-- in parentheses
abbrev pub grouped : List ℕ → List ℕ
grouped u = codes "(" ++ (u ++ codes ")")

-- several operands in parentheses with the sign between each two; one stands alone, and no operand is this text
abbrev pub joined_text : List ℕ → List ℕ → List (List ℕ) → List ℕ
joined_text none sign [] = none
joined_text none sign (u ∷ []) = u
joined_text none sign (u ∷ v ∷ us) = grouped u ++ behind_each sign (map grouped (v ∷ us))

-- a symbol with its arguments, if it has any
abbrev pub applied_text : List ℕ → List (List ℕ) → List ℕ
applied_text symbol [] = symbol
applied_text symbol (u ∷ us) = symbol ++ grouped (u ++ behind_each (codes ", ") us)
