use Rattle.std.proofs.Common.{◌+◌, ◌||◌, ℕ, Bool, refl, drop, map, arith}
use Rattle.formula.specs.Tree.{form}
use Rattle.formula.proofs.Making.{left_err, left_made}
use Rattle.function_encoding.specs.Marks.{is_marked}
use Rattle.function_encoding.proofs.Kept.{left_over, kept_as, over_read, over_end}
use Rattle.function_encoding.proofs.conditions.conditions.Goals as goal

pub returns-in_err-formulas : goal.returns-in_err-formulas
returns-in_err-formulas c =
    let kept : ℕ → Bool = λ x. c.args.all || is_marked c.args.marks.now x in
    left_err (λ hs. map form hs) (λ hs. map form hs) _ (left_over kept (c.args.first + (c.loop-i.i + 1)) (drop (c.loop-i.i + 1) c.args.sorts.now)) _ c.from_residual.ensures.1
    (over_read kept c.args.first c.loop-i.i c.args.sorts.now _ (map form c.loop-i.formulas) _ (omega arith) c.loop-i.invariant)
    (kept_as kept _ _ (c.args.first + c.loop-i.i) _ (map form c.loop-i.formulas) _ c.is_kept.ensures refl c.in_err-formulas.ensures)

pub loop-i-preserved : goal.loop-i-preserved
loop-i-preserved c =
    let kept : ℕ → Bool = λ x. c.args.all || is_marked c.args.marks.now x in
    left_made (λ hs. map form hs) _ (left_over kept (c.args.first + (c.loop-i.i + 1)) (drop (c.loop-i.i + 1) c.args.sorts.now))
    (over_read kept c.args.first c.loop-i.i c.args.sorts.now _ (map form c.loop-i.formulas) _ (omega arith) c.loop-i.invariant)
    (kept_as kept _ _ (c.args.first + c.loop-i.i) _ (map form c.loop-i.formulas) _ c.is_kept.ensures refl c.in_ok-formulas.ensures)

pub returns : goal.returns
returns c = over_end (λ x. c.args.all || is_marked c.args.marks.now x) c.args.first c.loop-i.i c.args.sorts.now c.loop-i.formulas _ (omega arith) c.loop-i.invariant
