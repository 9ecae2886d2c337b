use Rattle.std.proofs.Common.{◌∙◌, ap}
use Rattle.base_budget.specs.Trace.{capped}
use Rattle.sequent.specs.Views.{members_of}
use Rattle.pred_unify.specs.Reading.{behind, meetings_by}
use Rattle.tree_branch.specs.Pairing.{sum_of, pure_size, with_predicates_size, function_pairs_size}
use Rattle.tree_branch.proofs.Kept.{meetings_kept, pures_kept, values_kept}
use Rattle.tree_branch.proofs.Pairings.{capped_sum}
use Rattle.tree_branch.proofs.leaf_charge.closing_size.Goals as goal

pub returns : goal.returns
returns c =
    let ms = behind c.args.leaf.now.members.items in
    capped_sum (sum_of pure_size (members_of ms)) (sum_of (λ m. with_predicates_size (members_of ms) m.formula) (members_of ms)) (function_pairs_size (members_of ms)) _ _ _ _ _ _
    (c.sizes.ensures ∙ ap capped (pures_kept ms (behind c.as_slice-4.result.now) (ap behind c.as_slice-4.ensures.value ∙ c.requires.pure)))
    (c.all_predicates_size-predicates.ensures ∙ ap capped (meetings_kept ms c.as_slice-2.result.now c.as_slice.result.now ((λ i. meetings_by (c.as_slice-2.ensures.value i) (c.as_slice.ensures.value i)) ∙ c.requires.met)))
    (c.later_values_size.ensures ∙ ap capped (values_kept ms (behind c.as_slice-3.result.now) (ap behind c.as_slice-3.ensures.value ∙ c.requires.differing)))
    c.saturating_add-pairs.ensures c.saturating_add.ensures c.saturating_add-2.ensures
