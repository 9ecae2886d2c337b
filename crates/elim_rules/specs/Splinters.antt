-- The numbers of a splinter's bound.
use Rattle.std.specs.Prelude.{ℤ, ◌-ℤ◌, ◌*ℤ◌, List, [], ◌∷◌}
use Rattle.linear_term.specs.declared.range.Place.{Place}
use Rattle.clause_set.specs.Names.{product}
use Rattle.clause_set.specs.Shadows.{difference}

-- a·b, a·b − a and a·b − a − b, as raw numbers
abbrev pub splinter_numbers : ℤ → ℤ → List Place
splinter_numbers a b = product a b ∷ difference (a *ℤ b) a ∷ difference ((a *ℤ b) -ℤ a) b ∷ []
