-- How much is written: nodes, and one more than the level of the lowest of them, both up to just above the limits of a script.
-- As a factor: this many copies, each this many levels further down, and one.
use Rattle.std.specs.Prelude.{ℕ, zero, suc, ◌+◌, ◌*◌, ◌-◌, ◌&&◌, min, max, nat_lt, if◌then◌else◌}
use Rattle.smt_sizes.specs.declared.size.Size.{Size}
use Rattle.smt_sizes.specs.declared.size.Size.TheVariants.{Large, Fits}
use Rattle.smt_sizes.specs.declared.weight.Weight.{Weight}

abbrev pub nothing : Weight
nothing = record { nodes = 0; reach = 0 }

-- one copy where it is
abbrev pub unit : Weight
unit = record { nodes = 1; reach = 1 }

-- a single node; as a factor one copy one level further down
abbrev pub node : Weight
node = record { nodes = 1; reach = 2 }

-- one level below the one reached by the first, the second begins; nothing reaches nowhere
abbrev pub onward : ℕ → ℕ → ℕ
onward zero s = 0
onward (suc r) zero = 0
onward (suc r) (suc s) = suc (r + s)

-- two together
unfoldable pub plus : Weight → Weight → Weight
plus a b = record { nodes = min (a.nodes + b.nodes) 1000001; reach = max a.reach b.reach }

-- this many copies of it, so far down
unfoldable pub times : Weight → Weight → Weight
times a b = record { nodes = min (a.nodes * b.nodes) 1000001; reach = min (onward a.reach b.reach) 2002 }

-- this many copies where they are
abbrev pub many : ℕ → Weight
many n = record { nodes = min n 1000001; reach = min n 1 }

-- one copy this many levels further down
abbrev pub up : ℕ → Weight
up n = record { nodes = 1; reach = suc (min n 2001) }

-- a node over something
abbrev pub over : Weight → Weight
over a = plus node (times node a)

-- nodes and levels within the limits of a script
abbrev pub fitted : Weight → Size
fitted a = if nat_lt a.nodes 1000001 && nat_lt a.reach 2002 then Fits a.nodes (a.reach - 1) else Large
