use Rattle.std.proofs.Common.{◌≡◌, take, map}
use Rattle.form_typed.specs.Formula.{formula}
use Rattle.pri_printer.specs.Formulas.{literal_formula}
use Rattle.pred_interpolant.proofs.normal_form.literals.Given as goal

abbrev pub invariant-loop-l : goal.invariant-loop-l
invariant-loop-l l = map formula l.out ≡ map (literal_formula l.n) (take l.l-index l.ls)
