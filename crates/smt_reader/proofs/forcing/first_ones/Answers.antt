use Rattle.std.proofs.Common.{arith, take}
use Rattle.smt_commands.proofs.Tables.{kept_all}
use Rattle.smt_reader.proofs.forcing.first_ones.Goals as goal

pub returns : goal.returns
returns c = kept_all c.args.count c.loop-effects.effects (take c.args.count c.args.effects) (omega (arith, c.loop-effects-test.false, c.len.ensures)) c.loop-effects.invariant
