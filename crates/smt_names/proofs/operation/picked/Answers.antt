use Rattle.std.proofs.Common.{arith}
use Rattle.smt_names.proofs.Saying.{picked-there, picked-past}
use Rattle.smt_names.proofs.operation.picked.Goals as goal

pub returns-then-i-len : goal.returns-then-i-len
returns-then-i-len c = λ D e n. picked-there D e c.args.arguments c.args.i c.remove.result n c.remove.ensures.item

pub returns : goal.returns
returns c = λ D e n. picked-past D e c.args.arguments c.args.i n (omega (arith, c.if-i-len.false))
