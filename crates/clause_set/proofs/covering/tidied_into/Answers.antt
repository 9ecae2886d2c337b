use Rattle.clause_set.proofs.Across.{both_stay}
use Rattle.clause_set.proofs.covering.tidied_into.Goals as goal

pub returns : goal.returns
returns c =
    both_stay c.args.a c.args.b _ c.in_ok-sorted.sorted c.as_slice-2.result.now c.as_slice.result.now c.as_slice-3.result.now c.as_slice-4.result.now c.all_stay.result c.all_stay-2.result c.requires.left c.requires.right
    c.as_slice.ensures c.as_slice-2.ensures c.all_stay.ensures c.if-not-all_stay.false c.as_slice-3.ensures c.as_slice-4.ensures c.all_stay-2.ensures c.if-not-all_stay-2.false c.in_ok-append.ensures c.in_ok-sorted.ensures
