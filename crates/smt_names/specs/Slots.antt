-- Bound names by number.
use Rattle.std.specs.Prelude.{ℕ, suc, Bool, false, List, [], ◌∷◌, nat_eq}
use Rattle.smt_names.specs.declared.body.Leaf.{Leaf}
use Rattle.smt_names.specs.declared.body.Leaf.TheVariants as l
use Rattle.smt_names.specs.Scopes.{BoundNames}

-- a leaf is the bound name of this number
abbrev pub is_slot : Leaf → ℕ → Bool
is_slot (l.Slot k) m = nat_eq k m
is_slot (l.Number v) m = false
is_slot (l.Truth b) m = false
is_slot (l.Constant k) m = false

-- names put before others, each standing for the next bound name from k on
abbrev pub slots_onto : ℕ → List (List ℕ) → BoundNames → BoundNames
slots_onto k [] outer = outer
slots_onto k (x ∷ xs) outer = slots_onto (suc k) xs ((x, l.Slot k) ∷ outer)
