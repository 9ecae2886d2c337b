use Rattle.std.proofs.Common.{◌≡◌, drop}
use Rattle.form_typed.specs.Formula.{formulas_of}
use Rattle.pri_typing.specs.WellFormed.{all_formula_components}
use Rattle.function_encoding.specs.Marks.{marked, names_of_parts}
use Rattle.function_encoding.proofs.marks.+side.Given as goal

abbrev pub invariant-mark_all_parts-loop-f : goal.invariant-mark_all_parts-loop-f
invariant-mark_all_parts-loop-f l = marked l.marks (names_of_parts l.set (all_formula_components l.plus (formulas_of (drop l.f-index l.formulas))))
    ≡ marked l.fn.marks (names_of_parts l.set (all_formula_components l.plus (formulas_of l.formulas)))
