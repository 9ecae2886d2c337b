-- The commands in force, as the code keeps them.
use Rattle.std.specs.Prelude.{List, map, reverse}
use Rattle.smt_commands.specs.Levels.{Levels}
use Rattle.smt_commands.specs.Marks.{taken_at}
use Rattle.smt_terms.specs.Scripts.{Command}
use Rattle.smt_reader.specs.declared.forces.Forces.{Forces}
use Rattle.smt_reader.specs.Effects.{command_is}

-- the commands in force, and those that were in force where each open level began
abbrev pub force : Forces → Levels (List Command)
force f = record { now = map command_is f.effects; below = taken_at (map command_is f.effects) (reverse f.marks) }
