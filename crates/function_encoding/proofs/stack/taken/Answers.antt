use Rattle.std.proofs.Common.{◌+◌, reverse, arith}
use Rattle.function_encoding.proofs.Stacks.{taken_more}
use Rattle.function_encoding.proofs.stack.taken.Goals as goal

pub loop-preserved : goal.loop-preserved
loop-preserved c =
    taken_more (reverse c.args.stack) c.loop.out c.push.new.self c.loop.stack c.pop.new.self c.loop.counter (c.loop.counter + 1) c.in-Some.t (omega arith) c.loop.invariant.0 c.loop.invariant.1 c.in-Some.ensures c.in_ok-push.ensures.ok
