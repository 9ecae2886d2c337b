use Rattle.std.proofs.Common.{◌-◌, arith, refl}
use Rattle.smt_commands.specs.Levels.{pushed}
use Rattle.smt_commands.proofs.Marks.{pushed_all, pushed_on}
use Rattle.smt_reader.specs.Forces.{force}
use Rattle.smt_reader.proofs.forces.Forces.push.Goals as goal

pub loop-left-init : goal.loop-left-init
loop-left-init c = refl

pub loop-left-preserved : goal.loop-left-preserved
loop-left-preserved c =
    pushed_on c.loop-left.left (c.loop-left.left - 1) (force c.loop-left.forces) (force c.in_ok-forces.forces) (pushed c.args.count (force c.args.self)) (omega (arith, c.loop-left-test.true)) c.in_ok-forces.ensures c.loop-left.invariant

pub returns : goal.returns
returns c = pushed_all c.loop-left.left (force c.loop-left.forces) (pushed c.args.count (force c.args.self)) (omega (arith, c.loop-left-test.false)) c.loop-left.invariant
