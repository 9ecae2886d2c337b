-- What the registers of a machine's states hold.
use Rattle.std.specs.Prelude.{ℕ, ◌≢◌, ◌≤◌, ◌<◌, ◌^◌}
use Rattle.linear_term.specs.Linear.{IsOver}
use Rattle.proof_constraint.specs.declared.draft.Draft.{Draft}
use Rattle.proof_constraint.specs.Behind.{Behind}
use Rattle.proof_constraint.specs.Behind as b
use Rattle.proof_constraint.specs.State.{GivenState}
use Rattle.proof_constraint.specs.State as s

-- a name that may come is above all that came
abbrev pub IsRising : Draft → Type 0
IsRising g = (x : ℕ) → g.least ≤ x → IsOver x g.sum

-- the numbers of a state are in the range
abbrev pub IsInRange : Behind → Type 0
IsInRange (b.Number g minus n) = IsRising g × (n < 2 ^ 127)
IsInRange (b.Start g) = IsRising g
IsInRange (b.Sum g) = IsRising g
IsInRange (b.Sign g minus) = IsRising g
IsInRange (b.Relation d c s bound) = Unit {0}
IsInRange (b.Clause d c) = Unit {0}
IsInRange b.False = Unit {0}

abbrev pub IsStateInRange : GivenState → Type 0
IsStateInRange (s.Behind w) = IsInRange w
IsStateInRange (s.Blank w) = IsInRange w
IsStateInRange (s.Minus g) = IsRising g
IsStateInRange (s.Times g minus n) = IsRising g × (n < 2 ^ 127) × (n ≢ 0)
