use Rattle.std.proofs.Common.{◌≡◌, ◌++◌, drop, map}
use Rattle.std.specs.List.{filter}
use Rattle.form_typed.specs.Formula.{formula, formulas_of}
use Rattle.pri_typing.specs.Problems.{assumed}
use Rattle.pri_typing.specs.WellFormed.{all_formula_components}
use Rattle.function_encoding.specs.Encoded.{is_in}
use Rattle.pred_interpolant.proofs.sides.+side.Given as goal

abbrev pub invariant-collect_all-loop-f : goal.invariant-collect_all-loop-f
invariant-collect_all-loop-f l = map formula l.out ++ map assumed (filter (is_in l.set) (all_formula_components l.plus (formulas_of (drop l.f-index l.formulas))))
    ≡ map formula l.fn.out ++ map assumed (filter (is_in l.set) (all_formula_components l.plus (formulas_of l.formulas)))
