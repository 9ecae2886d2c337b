use Rattle.std.proofs.Common.{◌-◌, arith, refl}
use Rattle.smt_commands.specs.Levels.{pushed}
use Rattle.smt_commands.proofs.Marks.{pushed_all, pushed_on}
use Rattle.smt_commands.proofs.scopes.Scopes.push.Goals as goal

pub loop-left-init : goal.loop-left-init
loop-left-init c = refl

pub loop-left-preserved : goal.loop-left-preserved
loop-left-preserved c = pushed_on c.loop-left.left (c.loop-left.left - 1) c.loop-left.scopes c.in_ok-scopes.scopes (pushed c.args.count c.args.self) (omega (arith, c.loop-left-test.true)) c.in_ok-scopes.ensures c.loop-left.invariant

pub returns : goal.returns
returns c = pushed_all c.loop-left.left c.loop-left.scopes (pushed c.args.count c.args.self) (omega (arith, c.loop-left-test.false)) c.loop-left.invariant
