use Rattle.std.proofs.Common.{rules}
use Rattle.clause_checker.proofs.Lefts.{marks_go}
use Rattle.clause_checker.proofs.resolving.mark_all.Goals as goal

pub loop-l-preserved : goal.loop-l-preserved
loop-l-preserved c = marks_go c.loop-l.marks c.mark.new.marks c.args.clause.now c.loop-l.l-index _ c.loop-l-test.true (search rules) c.loop-l.invariant c.in_ok-mark.ensures.ok
