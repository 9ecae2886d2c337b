-- The bound names at a site of a formula, and the scope there.
use Rattle.std.specs.Prelude.{ℕ, suc, List, [], ◌∷◌, Option, Some, None, if◌then◌else◌, length, ◌<◌, ◌≤◌, ◌^◌}
use Rattle.pri_reader.specs.declared.tree.Declared.{Declared}
use Rattle.pri_typing.specs.declared.scope.BoundNames.{BoundNames, Nothing, More'}
use Rattle.pri_typing.specs.declared.scope.Site.{Site}
use Rattle.base_limits.specs.Limits.{most_symbols}
use Rattle.base_texts.specs.Texts.{is_text}
use Rattle.pri_typing.specs.Scope.{Scope, bind}

-- the most names that are bound at one site
abbrev pub most_bound : ℕ
most_bound = 200

-- the texts of bound names, the innermost first
abbrev pub bound_texts : BoundNames → List (List ℕ)
bound_texts Nothing = []
bound_texts (More' names p outer) = bind names.now (bound_texts outer)

-- the last place of a text among names
abbrev pub last_or : Option ℕ → Option ℕ → Option ℕ
last_or (Some i) other = Some (suc i)
last_or None other = other

abbrev pub last_place : List ℕ → List Declared → Option ℕ
last_place text [] = None
last_place text (n ∷ names) = last_or (last_place text names) (if is_text text n.name.text then Some 0 else None)

-- the scope at a site
abbrev pub scope_at : Site → Scope
scope_at p = record { declared = p.symbols.now; parts = p.parts.now; bound = bound_texts p.bound.now }

-- a site at which all numbers of names fit: of a file with at most 1,000 symbols and fewer than 2^32 parts, under at
-- most 200 bound names
pub record IsFit (p : Site) : Type 0 where
  pub few : length p.symbols.now ≤ most_symbols
  pub countable : length p.parts.now < 2 ^ 32
  pub shallow : length (bound_texts p.bound.now) ≤ most_bound
