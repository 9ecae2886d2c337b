-- Where an ending may be.
use Rattle.std.specs.Prelude.{ℕ, ◌≤◌}
use Rattle.smt_tokens.specs.declared.strings.Ending.{Ending}
use Rattle.smt_tokens.specs.declared.strings.Ending.TheVariants as e

-- the string or the symbol closes within this many bytes, if it does
abbrev pub ClosesWithin : Ending → ℕ → Type 0
ClosesWithin (e.Closed n) most = n ≤ most
ClosesWithin e.Forbidden most = Unit {0}
ClosesWithin e.Missing most = Unit {0}
