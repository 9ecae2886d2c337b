-- What a call of the encoder is sure of: numbers in the range, and names that are left to bind.
use Rattle.std.specs.Prelude.{ℕ, ◌+◌, ◌^◌, ◌<◌, List, [], ◌∷◌}
use Rattle.linear_term.specs.Range.{InRange}
use Rattle.form_encoding.specs.Extent as extents
use Rattle.form_encoding.specs.Extent.{leaf, in_both, above, above_two, extent}
use Rattle.function_encoding.specs.Actions.{Action, put_number, apply, choose, take_absolute, take_extreme, relate, predicate}
use Rattle.function_encoding.specs.Ranged.{HasRangedNumbers}

-- where n names are bound, there are numbers left for those that an encoding of this extent binds
abbrev pub HasNamesLeft : ℕ → extents.Extent → Type 0
HasNamesLeft n e = n + e.levels < 2 ^ 32

-- how large the formula is that a list of actions makes
abbrev pub extent_left : List Action → extents.Extent
extent_left [] = leaf
extent_left (apply f k ∷ c) = above (above_two leaf (extent_left c))
extent_left (choose f ∷ c) = in_both (extent f) (extent_left c)
extent_left (take_absolute ∷ c) = in_both leaf (extent_left c)
extent_left (take_extreme r ∷ c) = in_both leaf (extent_left c)
extent_left (relate r ∷ c) = leaf
extent_left (predicate plus p k ∷ c) = leaf
extent_left (a ∷ c) = extent_left c

-- all their numbers are coefficients
abbrev pub AreActionsRanged : List Action → Type 0
AreActionsRanged [] = Unit {0}
AreActionsRanged (put_number v ∷ c) = InRange v × AreActionsRanged c
AreActionsRanged (choose f ∷ c) = HasRangedNumbers f × AreActionsRanged c
AreActionsRanged (a ∷ c) = AreActionsRanged c
