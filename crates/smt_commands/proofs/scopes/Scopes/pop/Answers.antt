use Rattle.std.proofs.Common.{◌-◌, arith, refl}
use Rattle.smt_commands.specs.Levels.{popped}
use Rattle.smt_commands.proofs.Marks.{popped_all, popped_on}
use Rattle.smt_commands.proofs.scopes.Scopes.pop.Goals as goal

pub loop-left-init : goal.loop-left-init
loop-left-init c = refl

pub loop-left-preserved : goal.loop-left-preserved
loop-left-preserved c = popped_on c.loop-left.left (c.loop-left.left - 1) c.loop-left.scopes c.pop_one-scopes.result (popped c.args.count c.args.self) (omega (arith, c.loop-left-test.true)) c.pop_one-scopes.ensures c.loop-left.invariant

pub returns : goal.returns
returns c = popped_all c.loop-left.left c.loop-left.scopes (popped c.args.count c.args.self) (omega (arith, c.loop-left-test.false)) c.loop-left.invariant
