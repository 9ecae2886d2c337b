-- The last of the names begun.
use Rattle.std.proofs.Common.{◌≡◌, ℕ, List, [], ◌∷◌, ◌++◌, Option, Some, None, refl, map, ◌∙◌, ap}
use Rattle.std.specs.List.{last_or}
use Rattle.std.specs.Prelude.{String, string_bytes}
use Rattle.std.specs.declared.alloc.Global.{Global}

last_behind : {A : Type 0} (o : Option A) (xs : List A) (x : A) → last_or o (xs ++ x ∷ []) ≡ Some x
last_behind o [] x = refl
last_behind o (y ∷ ys) x = last_behind (Some y) ys x

map_behind : (xs : List (String Global)) (x : String Global) → map string_bytes (xs ++ x ∷ []) ≡ map string_bytes xs ++ string_bytes x ∷ []
map_behind [] x = refl
map_behind (y ∷ ys) x = ap (λ z. string_bytes y ∷ z) (map_behind ys x)

pub added_behind : (old new : List (String Global)) (x : String Global) (name : List ℕ) → new ≡ old ++ x ∷ [] → string_bytes x ≡ name → map string_bytes new ≡ map string_bytes old ++ name ∷ []
added_behind old new x name e is = ap (map string_bytes) e ∙ map_behind old x ∙ ap (λ z. map string_bytes old ++ z ∷ []) is

pub last_added : (old new : List (String Global)) (x : String Global) (name : List ℕ) → new ≡ old ++ x ∷ [] → string_bytes x ≡ name → last_or None (map string_bytes new) ≡ Some name
last_added old new x name e is = ap (last_or None) (added_behind old new x name e is) ∙ last_behind None (map string_bytes old) name

pub ruleset begun = (added_behind, last_added)
