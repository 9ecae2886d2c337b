-- How a literal stands to a name.
use Rattle.std.specs.Prelude.{ℕ, Bool, not}
use Rattle.clause_set.specs.declared.literal.Literal.{Literal}
use Rattle.clause_set.specs.Names.{has, is_lower, is_upper}
use Rattle.elim_rules.specs.declared.sides.Side.{Side}
use Rattle.elim_rules.specs.declared.sides.Side.TheVariants.{Without, Lower, Upper}

-- the literal is without x, or bounds it from below, or from above
abbrev pub stands : Side → ℕ → Literal → Bool
stands Without x = λ l. not (has x l)
stands Lower x = is_lower x
stands Upper x = is_upper x
