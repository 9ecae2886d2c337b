-- Bounds of types in the code, and conditions of several names.
use Rattle.std.specs.Prelude.{ℕ, zero, suc, ℤ, ◌+◌, Bool, true, false, cond, List, [], ◌∷◌, length}
use Rattle.form_typed.specs.declared.typed.Sort.{Sort}
use Rattle.form_encoding.specs.Encoding as encoding
use Rattle.form_encoding.specs.Encoding.{SortBound, bounds}
use Rattle.form_encoding.specs.Extent.{Extent, above, beside, extent, restricted_extent}
use Rattle.form_typed.specs.Formula.{Formulas, no_formula, and_formula}

-- n as the greatest value of a type, or else as the least
abbrev pub bound_of : Bool → ℤ → SortBound
bound_of greatest n = cond greatest (encoding.greatest n) (encoding.least n)

-- how many conditions those of the names from x on have that are kept
abbrev pub kept_bounds : (ℕ → Bool) → ℕ → List Sort → ℕ
kept_bounds kept x [] = 0
kept_bounds kept x (s ∷ ss) = cond (kept x) (length (bounds s)) 0 + kept_bounds kept (suc x) ss

-- a formula below quantifiers of these types
abbrev pub below_types : List Sort → Extent → Extent
below_types [] e = e
below_types (s ∷ ss) e = above (restricted_extent (length (bounds s)) (below_types ss e))

-- formulas before others
abbrev pub extents_before : Formulas → Extent → Extent
extents_before no_formula e = e
extents_before (and_formula f fs) e = beside (extent f) (extents_before fs e)
