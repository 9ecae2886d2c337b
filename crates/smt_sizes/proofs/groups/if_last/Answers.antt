use Rattle.std.proofs.Common.{◌+◌}
use Rattle.smt_sizes.proofs.Rests.{rest-more}
use Rattle.smt_sizes.proofs.groups.if_last.Goals as goal

pub returns-then-i-kinds-2 : goal.returns-then-i-kinds-2
returns-then-i-kinds-2 c = rest-more c.args.kinds.now (c.args.i + 1) c.args.last c.args.other c.if-i-kinds-2.true
