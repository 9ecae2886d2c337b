-- Sizes within the limits of a script: 1,000,000 nodes and 2,000 levels.
use Rattle.std.specs.Prelude.{◌+◌, ◌&&◌, max, nat_lt, nat_le, if◌then◌else◌}
use Rattle.base_limits.specs.Limits.{most_levels, most_nodes}
use Rattle.smt_sizes.specs.declared.size.Size.{Size}
use Rattle.smt_sizes.specs.declared.size.Size.TheVariants.{Large, Fits}

abbrev pub nothing : Size
nothing = Fits 0 0

abbrev pub one : Size
one = Fits 1 1

abbrev pub beside : Size → Size → Size
beside Large b = Large
beside (Fits n l) Large = Large
beside (Fits n l) (Fits m k) = if nat_le (n + m) most_nodes then Fits (n + m) (max l k) else Large

-- a node over others
abbrev pub above : Size → Size
above Large = Large
above (Fits n l) = if nat_lt n most_nodes && nat_lt l most_levels then Fits (n + 1) (l + 1) else Large
