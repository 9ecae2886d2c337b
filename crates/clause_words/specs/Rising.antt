-- Sums whose names rise.
use Rattle.std.specs.Prelude.{ℕ, ◌≤◌, ◌<◌, ◌≢◌, ◌^◌}
use Rattle.linear_term.specs.Linear.{IsOver}
use Rattle.clause_words.specs.declared.terms.Part.{Part}
use Rattle.clause_words.specs.declared.terms.Part.TheVariants as p
use Rattle.clause_words.specs.declared.terms.Sum.{Sum}

-- a name that may come is above all that came
abbrev pub HasRisingNames : Sum → Type 0
HasRisingNames s = (x : ℕ) → s.least ≤ x → IsOver x s.term

-- the numbers of a part are in their ranges, and its coefficient is not 0
abbrev pub IsSmallPart : Part → Type 0
IsSmallPart (p.Constant n) = n < 2 ^ 127
IsSmallPart (p.Monomial n x) = (n < 2 ^ 127) × (n ≢ 0) × (x < 2 ^ 32)
