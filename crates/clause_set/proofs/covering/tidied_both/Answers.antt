use Rattle.clause_set.proofs.Across.{sorted_both}
use Rattle.clause_set.proofs.covering.tidied_both.Goals as goal

pub returns : goal.returns
returns c =
    sorted_both c.args.a.now c.args.b.now c.in_ok-all.all c.in_ok-more.more _ c.in_ok-sorted.sorted c.requires.left c.requires.right c.in_ok-all.ensures c.in_ok-more.ensures c.in_ok-append.ensures c.in_ok-sorted.ensures
