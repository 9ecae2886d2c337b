use Rattle.std.proofs.Common.{◌≡◌, ◌-◌, ◌∙◌, ap, drop, length, arith}
use Rattle.form_typed.specs.Formula.{formulas_of, expressions_of}
use Rattle.form_encoding.specs.Extent as extents
use Rattle.function_encoding.specs.Counted.{counted}
use Rattle.function_encoding.proofs.Extents.{extents_end, extents_with_end, extents_back, extents_with_back}
use Rattle.function_encoding.proofs.counting.+extent.Goals as goal

pub extents-loop-i-init : goal.extents-loop-i-init
extents-loop-i-init t c = (omega arith, extents_end c.args.formulas.now (length c.args.formulas.now) (omega arith))

pub extents-loop-i-preserved : goal.extents-loop-i-preserved
extents-loop-i-preserved t c =
    (omega arith, extents_back c.args.formulas.now c.loop-i.i (c.loop-i.i - 1) _ _ _ _ (omega arith) (omega arith) c.index-formulas-i.is c.loop-i.invariant.1 c.extent_of.ensures c.beside-all.ensures)

pub extents-returns : goal.extents-returns
extents-returns t c =
    let none : c.loop-i.i ≡ 0 = omega arith in
    c.loop-i.invariant.1 ∙ ap (λ m. extents.extents (formulas_of (drop m c.args.formulas.now))) none

pub extents_with-loop-i-init : goal.extents_with-loop-i-init
extents_with-loop-i-init t c = (omega arith, extents_with_end c.args.terms.now (length c.args.terms.now) (counted c.args.rest) (omega arith))

pub extents_with-loop-i-preserved : goal.extents_with-loop-i-preserved
extents_with-loop-i-preserved t c =
    (omega arith, extents_with_back c.args.terms.now c.loop-i.i (c.loop-i.i - 1) _ _ _ _ (omega arith) (omega arith) c.index-terms-i.is c.loop-i.invariant.1 c.extent_with-all.ensures)

pub extents_with-returns : goal.extents_with-returns
extents_with-returns t c =
    let none : c.loop-i.i ≡ 0 = omega arith in
    c.loop-i.invariant.1 ∙ ap (λ m. extents.extents_with (expressions_of (drop m c.args.terms.now)) (counted c.args.rest)) none
