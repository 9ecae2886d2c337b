use Rattle.std.proofs.Common.{ap, map}
use Rattle.smt_reader.specs.Effects.{command_is}
use Rattle.smt_reader.proofs.forces.Forces.effects.Goals as goal

pub returns : goal.returns
returns c = ap (map command_is) c.as_slice.ensures
