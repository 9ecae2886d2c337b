use Rattle.std.proofs.Common.{rules}
use Rattle.clause_checker.proofs.Lefts.{left_goes}
use Rattle.clause_checker.proofs.resolving.left_of.Goals as goal

pub loop-l-preserved : goal.loop-l-preserved
loop-l-preserved c = left_goes c.args.marks.now c.loop-l.left c.with_literal-left.result c.args.clause.now c.loop-l.l-index _ c.loop-l-test.true (search rules) c.loop-l.invariant c.with_literal-left.ensures
