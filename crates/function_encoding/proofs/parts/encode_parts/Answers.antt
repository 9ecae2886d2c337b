use Rattle.std.proofs.Common.{◌≡◌, true, false, Bool, sym, ap, subst, ◌∙◌}
use Rattle.formula.specs.Form.{is_pure}
use Rattle.form_encoding.specs.Extent.{above}
use Rattle.form_encoding.specs.Problems.{constants, is_large, parts_root}
use Rattle.pri_typing.specs.Problems.{assumed_by}
use Rattle.form_encoding.proofs.Parts.{parts_pure}
use Rattle.function_encoding.specs.Bounds.{extents_before}
use Rattle.function_encoding.specs.Counted.{counted}
use Rattle.function_encoding.specs.Encoded.{all_assumed}
use Rattle.function_encoding.specs.Marks.{AreMarks}
use Rattle.function_encoding.proofs.Chosen.{parts_large, parts_are_flat, parts_names, parts_truth}
use Rattle.function_encoding.proofs.Roots.{encodes_err, made_value}
use Rattle.function_encoding.proofs.parts.encode_parts.Goals as goal

pub returns-then-exceeds-clause-work : goal.returns-then-exceeds-clause-work
returns-then-exceeds-clause-work c =
    let marked : AreMarks (constants c.args.p.now) (assumed_by c.args.p.now c.args.set.now) c.as_slice-marks.result.now = subst (AreMarks (constants c.args.p.now) (assumed_by c.args.p.now c.args.set.now)) (sym c.as_slice-marks.ensures.value) c.in_ok-occurring.ensures in
    sym (parts_large c.args.p.now c.args.set.now c.as_slice-marks.result.now c.in_ok-chosen.chosen (counted c.extent_of_all.result) c.requires marked c.in_ok-chosen.ensures
    (c.extent_of_all.ensures ∙ (λ i. above (extents_before (all_assumed (c.as_slice.ensures i)) (c.extent_of_conditions.ensures i))))) ∙ sym c.exceeds.ensures ∙ c.if-exceeds.true

pub all_of-requires-clause-marked : goal.all_of-requires-clause-marked
all_of-requires-clause-marked c = subst (AreMarks (constants c.args.p.now) (assumed_by c.args.p.now c.args.set.now)) (sym c.as_slice-marks.ensures.value) c.in_ok-occurring.ensures

pub all_of-requires-clause-small : goal.all_of-requires-clause-small
all_of-requires-clause-small c =
    let marked : AreMarks (constants c.args.p.now) (assumed_by c.args.p.now c.args.set.now) c.as_slice-marks.result.now = subst (AreMarks (constants c.args.p.now) (assumed_by c.args.p.now c.args.set.now)) (sym c.as_slice-marks.ensures.value) c.in_ok-occurring.ensures in
    sym (parts_large c.args.p.now c.args.set.now c.as_slice-marks.result.now c.in_ok-chosen.chosen (counted c.extent_of_all.result) c.requires marked c.in_ok-chosen.ensures
    (c.extent_of_all.ensures ∙ (λ i. above (extents_before (all_assumed (c.as_slice.ensures i)) (c.extent_of_conditions.ensures i))))) ∙ sym c.exceeds.ensures ∙ c.if-exceeds.false

pub returns-in_err-all_of-clause-work : goal.returns-in_err-all_of-clause-work
returns-in_err-all_of-clause-work c =
    encodes_err (parts_root c.args.p.now c.args.set.now) _ _ (let marked : AreMarks (constants c.args.p.now) (assumed_by c.args.p.now c.args.set.now) c.as_slice-marks.result.now = subst (AreMarks (constants c.args.p.now) (assumed_by c.args.p.now c.args.set.now)) (sym c.as_slice-marks.ensures.value) c.in_ok-occurring.ensures in
    sym (parts_large c.args.p.now c.args.set.now c.as_slice-marks.result.now c.in_ok-chosen.chosen (counted c.extent_of_all.result) c.requires marked c.in_ok-chosen.ensures
    (c.extent_of_all.ensures ∙ (λ i. above (extents_before (all_assumed (c.as_slice.ensures i)) (c.extent_of_conditions.ensures i))))) ∙ sym c.exceeds.ensures ∙ c.if-exceeds.false) c.in_err-all_of.ensures c.from_residual-in_err-all_of.ensures.1

pub returns-clause-work : goal.returns-clause-work
returns-clause-work c = (
  (let marked : AreMarks (constants c.args.p.now) (assumed_by c.args.p.now c.args.set.now) c.as_slice-marks.result.now = subst (AreMarks (constants c.args.p.now) (assumed_by c.args.p.now c.args.set.now)) (sym c.as_slice-marks.ensures.value) c.in_ok-occurring.ensures in
      sym (parts_large c.args.p.now c.args.set.now c.as_slice-marks.result.now c.in_ok-chosen.chosen (counted c.extent_of_all.result) c.requires marked c.in_ok-chosen.ensures
      (c.extent_of_all.ensures ∙ (λ i. above (extents_before (all_assumed (c.as_slice.ensures i)) (c.extent_of_conditions.ensures i))))) ∙ sym c.exceeds.ensures ∙ c.if-exceeds.false),
  c.in_ok-all_of.ensures,
)

pub returns-clause-flat : goal.returns-clause-flat
returns-clause-flat c = parts_are_flat c.args.p.now c.args.set.now _ (made_value c.in_ok-all_of.ensures)

pub returns-clause-over : goal.returns-clause-over
returns-clause-over c = parts_names c.args.p.now c.args.set.now _ c.requires (made_value c.in_ok-all_of.ensures)

pub returns-clause-small : goal.returns-clause-small
returns-clause-small c =
    ap is_large (made_value c.in_ok-all_of.ensures)
    ∙ (let marked : AreMarks (constants c.args.p.now) (assumed_by c.args.p.now c.args.set.now) c.as_slice-marks.result.now = subst (AreMarks (constants c.args.p.now) (assumed_by c.args.p.now c.args.set.now)) (sym c.as_slice-marks.ensures.value) c.in_ok-occurring.ensures in
    sym (parts_large c.args.p.now c.args.set.now c.as_slice-marks.result.now c.in_ok-chosen.chosen (counted c.extent_of_all.result) c.requires marked c.in_ok-chosen.ensures
    (c.extent_of_all.ensures ∙ (λ i. above (extents_before (all_assumed (c.as_slice.ensures i)) (c.extent_of_conditions.ensures i))))) ∙ sym c.exceeds.ensures ∙ c.if-exceeds.false)

pub returns-clause-pure : goal.returns-clause-pure
returns-clause-pure c = λ h. ap is_pure (made_value c.in_ok-all_of.ensures) ∙ parts_pure c.args.p.now c.args.set.now h

pub returns-clause-truth : goal.returns-clause-truth
returns-clause-truth c = parts_truth c.args.p.now c.args.set.now _ c.requires (made_value c.in_ok-all_of.ensures)
