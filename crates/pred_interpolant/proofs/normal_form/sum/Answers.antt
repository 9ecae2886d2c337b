use Rattle.std.proofs.Common.{sym}
use Rattle.pred_interpolant.proofs.Sums.{ranged_first, ranged_more}
use Rattle.pred_interpolant.proofs.normal_form.sum.Goals as goal

pub sum_of-requires-clause-first : goal.sum_of-requires-clause-first
sum_of-requires-clause-first c =
    ranged_first c.args.t.now.pairs c.pairs.result.now c.in-Some.more.now c.in-Some.first.now (sym c.pairs.ensures) c.in-Some.ensures.cases.0 c.know_ranged.ensures.pairs

pub sum_of-requires-clause-more : goal.sum_of-requires-clause-more
sum_of-requires-clause-more c =
    ranged_more c.args.t.now.pairs c.pairs.result.now c.in-Some.more.now c.in-Some.first.now (sym c.pairs.ensures) c.in-Some.ensures.cases.0 c.know_ranged.ensures.pairs
