use Rattle.std.proofs.Common.{◌≡◌, ◌++◌, drop, map}
use Rattle.form_typed.specs.Formula.{expression}
use Rattle.pri_printer.specs.Formulas.{later, later_part}
use Rattle.pri_printer.specs.Summands.{monomial}
use Rattle.pred_interpolant.proofs.normal_form.put_later.Given as goal

abbrev pub invariant-loop-pair : goal.invariant-loop-pair
invariant-loop-pair l = map expression l.out ++ map later (map later_part (map monomial (drop l.pair-index l.pairs))) ≡ map expression l.fn.out ++ map later (map later_part (map monomial l.pairs))
