use Rattle.std.proofs.Common.{◌≡◌, take, map}
use Rattle.form_typed.specs.Formula.{formula}
use Rattle.pri_printer.specs.Formulas.{clause_formula}
use Rattle.pred_interpolant.proofs.normal_form.clauses.Given as goal

abbrev pub invariant-loop-c : goal.invariant-loop-c
invariant-loop-c l = map formula l.out ≡ map (clause_formula l.n) (take l.c-index l.cs)
