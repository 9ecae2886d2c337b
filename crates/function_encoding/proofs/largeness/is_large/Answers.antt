use Rattle.std.proofs.Common.{true, ◌∙◌, sym}
use Rattle.form_encoding.specs.Extent.{restricted_extent}
use Rattle.function_encoding.specs.Bounds.{below_types, kept_bounds}
use Rattle.function_encoding.specs.Counted.{counted}
use Rattle.function_encoding.proofs.Limits.{problem_extent, large_is}
use Rattle.function_encoding.proofs.largeness.is_large.Goals as goal

pub returns : goal.returns
returns c =
    c.exceeds.ensures ∙ large_is _ (counted c.with_conditions.result)
    (problem_extent c.args.p.now ∙ (λ i. restricted_extent (kept_bounds (λ x. true) 0 (sym c.as_slice-2.ensures i)) (below_types (sym c.as_slice.ensures i) (sym c.extent_of.ensures i)))
    ∙ (λ i. restricted_extent (kept_bounds (λ x. true) 0 c.as_slice-2.result.now) (sym c.below-all.ensures i)) ∙ sym c.with_conditions.ensures)
