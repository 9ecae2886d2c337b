use Rattle.std.proofs.Common.{◌∙◌, ap}
use Rattle.pred_unify.specs.Reading.{behind, meetings_by}
use Rattle.pred_unify.proofs.Making.{pairs_made, pairs_cut}
use Rattle.pred_unify.proofs.pairing.put_pairs.Goals as goal

pub returns-in_err-all_predicates : goal.returns-in_err-all_predicates
returns-in_err-all_predicates c =
    pairs_cut (behind c.args.leaf.now.members.items) (behind c.args.leaf.now.differing.items) c.as_slice-2.result.now c.as_slice.result.now _ _ _ _ _
    ((λ i. meetings_by (c.as_slice-2.ensures.value i) (c.as_slice.ensures.value i)) ∙ c.requires.met) c.requires.differing c.from_residual.ensures.1 c.in_err-all_predicates.ensures

pub returns : goal.returns
returns c =
    pairs_made (behind c.args.leaf.now.members.items) (behind c.as_slice-3.result.now) c.as_slice-2.result.now c.as_slice.result.now _ _ _ _
    ((λ i. meetings_by (c.as_slice-2.ensures.value i) (c.as_slice.ensures.value i)) ∙ c.requires.met) (ap behind c.as_slice-3.ensures.value ∙ c.requires.differing) c.in_ok-all_predicates.ensures c.later_values.ensures
