use Rattle.clause_set.proofs.Thinning.{settling_more}
use Rattle.clause_set.proofs.covering.settled.Goals as goal

pub loop-c-preserved : goal.loop-c-preserved
loop-c-preserved c =
    settling_more c.args.cs c.loop-c.cs c.pop.new.self c.loop-c.kept c.push_thin.new.out c.in-Some.c c.in-Some.ensures c.in_ok-push_thin.ensures c.loop-c.invariant
