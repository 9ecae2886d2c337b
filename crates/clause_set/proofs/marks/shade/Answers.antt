use Rattle.std.proofs.Common.{pos}
use Rattle.clause_set.proofs.Marking.{shades_more}
use Rattle.clause_set.proofs.marks.shade.Goals as goal

pub loop-pair-preserved : goal.loop-pair-preserved
loop-pair-preserved c =
    shades_more c.args.pairs.now c.loop-pair.pair-index c.loop-pair.found c.mixed-found.result (0, pos 0) c.loop-pair-test.true c.mixed-found.ensures.exact c.mixed-found.ensures.less c.loop-pair.invariant
