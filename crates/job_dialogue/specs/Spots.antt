-- Lines and columns of an input.
use Rattle.std.specs.Prelude.{ℕ, ◌+◌, ◌==◌, ◌&&◌, Bool, List, fold, nat_le, nat_lt, if◌then◌else◌}
use Rattle.job_dialogue.specs.declared.spots.Spot.{Spot}

-- the byte goes on a character of several bytes
abbrev pub goes_on : ℕ → Bool
goes_on b = nat_le 128 b && nat_lt b 192

-- the spot after a byte: the next line after a line feed, and else the next column, but for a byte that goes on a character
abbrev pub spot_on : Spot → ℕ → Spot
spot_on s b =
    if b == 10 then record { line = s.line + 1; column = 1 } else
    (if goes_on b then s else record { line = s.line; column = s.column + 1 })

-- the spot after these bytes
abbrev pub spot_after : Spot → List ℕ → Spot
spot_after = fold spot_on

-- the spot where an input begins
abbrev pub first_spot : Spot
first_spot = record { line = 1; column = 1 }
